-- The lines of vertices, one more at a time.
use Rattle.std.proofs.Common.{◌≡◌, ℕ, ◌+◌, ◌<◌, List, [], ◌∷◌, ◌++◌, length, get_or, take, sym, ap, ◌∙◌, append_assoc, append-nil}
use Rattle.std.proofs.lemmas.List.{take_more}
use Rattle.outline.specs.declared.point.Point.{Point}
use Rattle.exchange.specs.Texts.{vertex_line, vertex_lines}

lines_push : (ps : List Point) (p : Point) → vertex_lines (ps ++ p ∷ []) ≡ vertex_lines ps ++ vertex_line p
lines_push [] p = append-nil (vertex_line p)
lines_push (q ∷ ps) p = ap (λ text. vertex_line q ++ text) (lines_push ps p) ∙ sym (append_assoc (vertex_line q) (vertex_lines ps) (vertex_line p))

pub lines_more : (ps : List Point) (i : ℕ) (d : Point) → i < length ps → vertex_lines (take i ps) ++ vertex_line (get_or ps i d) ≡ vertex_lines (take (i + 1) ps)
lines_more ps i d l = sym (ap vertex_lines (take_more ps i d l) ∙ lines_push (take i ps) (get_or ps i d))
