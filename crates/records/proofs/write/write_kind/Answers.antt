use Rattle.std.proofs.Common.{◌≡◌, ◌+◌, ◌-◌, ◌/◌, ◌≤◌, ◌++◌, length, get_or, drop, Some, None, Err, sym, ap, ◌∙◌, subst, arith, rules}
use Rattle.std.proofs.lemmas.Option.{MatchOption-at_some}
use Rattle.outline.specs.declared.refusal.Refusal.TheVariants.{EdgeNoCode}
use Rattle.outline.specs.Held.{held, origin}
use Rattle.coding.specs.Tables.{price_of}
use Rattle.records.specs.Bytes.{framed, bytes_of, codes_of}
use Rattle.records.specs.Numbered.{Recorded}
use Rattle.records.specs.Writing.{vertices, polygon_bits}
use Rattle.records.proofs.Packing.{length_packed}
use Rattle.records.proofs.Polygons.{count_few, vertices_inside}
use Rattle.records.proofs.Prices.{some_price}
use Rattle.records.proofs.Recording.{bits_few, writes_none, writes_short, writes_all, reads_back, head_joined, buffer_is, part_long, codes_room, codes_bytes}
use Rattle.records.proofs.Summed.{bits_are_codes, summed}
use Rattle.records.proofs.write.write_kind.Goals as goal

pub returns-in_err-bits : goal.returns-in_err-bits
returns-in_err-bits g c =
    let t = g.C.Coder.table c.args.coder.now in
    let kind = c.args.kind in
    let ps = held c.args.outline.now.points in
    let list = c.args.list.now in
    let before = c.args.buffer.now in
    let made = MatchOption-at_some _ _ c.in_ok-corners.corners c.in_ok-corners.ensures.ok_part c.of.ensures in
    let none : None ≡ price_of (codes_of t (vertices ps list)) = sym c.in_err-bits.ensures.ok_part ∙ c.code_bits.ensures ∙ ap (polygon_bits t) made.1 ∙ bits_are_codes t (vertices ps list) in
    let said : c.from_residual-in_err-bits.result ≡ Err EdgeNoCode = search rules in
    let w = subst (Recorded t kind ps list before before) (sym said) (writes_none t kind ps list made.0 before none) in
    record { right = summed t kind ps list made.0 w; back = search rules; recorded = w }

pub overflow_add-bytes : goal.overflow_add-bytes
overflow_add-bytes g c =
    let t = g.C.Coder.table c.args.coder.now in
    let vs = vertices (held c.args.outline.now.points) c.args.list.now in
    let made = MatchOption-at_some _ _ c.in_ok-corners.corners c.in_ok-corners.ensures.ok_part c.of.ensures in
    let bits : Some c.in_ok-bits.bits ≡ price_of (codes_of t vs) = sym c.in_ok-bits.ensures.ok_part ∙ c.code_bits.ensures ∙ ap (polygon_bits t) made.1 ∙ bits_are_codes t vs in
    omega (arith, bits_few t (g.met.C.Coder.codes c.args.coder.now) vs c.in_ok-bits.bits bits, count_few c.args.outline.now c.args.list.now made.0)

pub returns-then-buffer-bytes : goal.returns-then-buffer-bytes
returns-then-buffer-bytes g c =
    let t = g.C.Coder.table c.args.coder.now in
    let kind = c.args.kind in
    let ps = held c.args.outline.now.points in
    let list = c.args.list.now in
    let vs = vertices ps list in
    let made = MatchOption-at_some _ _ c.in_ok-corners.corners c.in_ok-corners.ensures.ok_part c.of.ensures in
    let b = c.in_ok-bits.bits in
    let bits : Some b ≡ price_of (codes_of t vs) = sym c.in_ok-bits.ensures.ok_part ∙ c.code_bits.ensures ∙ ap (polygon_bits t) made.1 ∙ bits_are_codes t vs in
    let codes = some_price (codes_of t vs) b bits in
    let w = writes_short t kind ps list made.0 c.args.buffer.now b codes.0 codes.1 codes.2 (omega arith) in
    record { right = summed t kind ps list made.0 w; back = tt; recorded = w }

pub overflow_cast-bytes : goal.overflow_cast-bytes
overflow_cast-bytes g c =
    let t = g.C.Coder.table c.args.coder.now in
    let vs = vertices (held c.args.outline.now.points) c.args.list.now in
    let made = MatchOption-at_some _ _ c.in_ok-corners.corners c.in_ok-corners.ensures.ok_part c.of.ensures in
    let bits : Some c.in_ok-bits.bits ≡ price_of (codes_of t vs) = sym c.in_ok-bits.ensures.ok_part ∙ c.code_bits.ensures ∙ ap (polygon_bits t) made.1 ∙ bits_are_codes t vs in
    let small : c.in_ok-bits.bits ≤ 8192 = omega (arith, bits_few t (g.met.C.Coder.codes c.args.coder.now) vs c.in_ok-bits.bits bits, count_few c.args.outline.now c.args.list.now made.0) in
    omega (arith, small)

pub write_codes-requires : goal.write_codes-requires
write_codes-requires g c =
    let t = g.C.Coder.table c.args.coder.now in
    let b = c.in_ok-bits.bits in
    let n = 9 + (b + 7) / 8 in
    let nine : length c.copy_from_slice.new.self ≡ 9 = ap length (c.copy_from_slice.ensures.after ∙ c.head_bytes-head.ensures) in
    let part = part_long c.copy_from_slice.new.self c.args.buffer.now n nine (omega arith) in
    codes_room t _ b _ (sym c.in_ok-bits.ensures.ok_part ∙ c.code_bits.ensures ∙ bits_are_codes t _) (part ∙ omega arith)

pub returns : goal.returns
returns g c =
    let t = g.C.Coder.table c.args.coder.now in
    let o = c.args.outline.now in
    let kind = c.args.kind in
    let ps = held o.points in
    let list = c.args.list.now in
    let vs = vertices ps list in
    let before = c.args.buffer.now in
    let made = MatchOption-at_some _ _ c.in_ok-corners.corners c.in_ok-corners.ensures.ok_part c.of.ensures in
    let same = made.1 in
    let b = c.in_ok-bits.bits in
    let bits : Some b ≡ price_of (codes_of t vs) = sym c.in_ok-bits.ensures.ok_part ∙ c.code_bits.ensures ∙ ap (polygon_bits t) same ∙ bits_are_codes t vs in
    let n = 9 + (b + 7) / 8 in
    let codes = some_price (codes_of t vs) b bits in
    let h = c.copy_from_slice.new.self in
    let body = c.write_codes.new.body in
    let head = c.copy_from_slice.ensures.after ∙ c.head_bytes-head.ensures in
    let nine : length h ≡ 9 = ap length head in
    let held_bytes : bytes_of codes.0 ≡ body = codes_bytes t _ codes.0 body (ap (codes_of t) same ∙ codes.1) c.write_codes.ensures in
    let size : n - 2 ≡ 7 + length (bytes_of codes.0) = omega (arith, length_packed ((length codes.0 + 7) / 8) codes.0, codes.2) in
    let joined : h ++ body ≡ framed kind (get_or vs 0 origin) (length vs - 1) codes.0 =
    head_joined (n - 2) kind _ (get_or vs 0 origin) c.edges.result (length vs - 1) codes.0 h body head size (c.start.ensures ∙ ap (λ xs. get_or xs 0 origin) same) (c.edges.ensures ∙ ap (λ xs. length xs - 1) same) held_bytes in
    let after : _ ≡ framed kind (get_or vs 0 origin) (length vs - 1) codes.0 ++ drop n before = buffer_is h body before n nine (omega arith) ∙ ap (λ xs. xs ++ drop n before) joined in
    let w = writes_all t kind ps list made.0 before b codes.0 codes.1 codes.2 _ (omega arith) after in
    record {
      right = summed t kind ps list made.0 w;
      recorded = w;
      back = reads_back t kind ps list made.0 before b codes.0 codes.1 codes.2 _ (vertices_inside o list made.0) after;
    }
