-- The lists that rise to a point are the polygons of the points up to it.
use Rattle.std.proofs.Common.{◌≡◌, ℕ, zero, suc, ◌+◌, ◌-◌, ◌<◌, ◌≤◌, List, [], ◌∷◌, ◌++◌, length, get_or, take, sym, refl, ap, ◌∙◌, subst, subst₂, ⊎_elim, arith}
use Rattle.graph.specs.Paths.{Rising}
use Rattle.graph.specs.Paths.Rising.{alone, higher}
use Rattle.outline.specs.Polygon.{Polygon}
use Rattle.std.proofs.lemmas.List.{get_or_append_left, get_or_push, length_push, take_more, take_all}
use Rattle.std.proofs.lemmas.Bool.{cases_lt}

polygon_alone : Polygon (suc zero) (zero ∷ [])
polygon_alone = record { some = omega arith; first = refl; last = refl; rising = λ k l. absurd (omega arith) }

module _ {i : ℕ} (vs : List ℕ) (j : ℕ) (p : Polygon (suc i) vs) (l : i < j) where
  long : length (vs ++ (j ∷ [])) ≡ length vs + 1
  long = length_push vs j

  rising_push : (k : ℕ) → suc k < length (vs ++ (j ∷ [])) → get_or (vs ++ (j ∷ [])) k 0 < get_or (vs ++ (j ∷ [])) (suc k) 0
  rising_push k m =
      let near : get_or (vs ++ (j ∷ [])) k 0 ≡ get_or vs k 0 = get_or_append_left vs (j ∷ []) 0 k (omega (arith, long)) in
      ⊎_elim
      (λ low. omega (arith, near, get_or_append_left vs (j ∷ []) 0 (suc k) low, p.rising k low))
      (λ high.
      let here : get_or (vs ++ (j ∷ [])) (suc k) 0 ≡ j = get_or_push vs j 0 (suc k) (omega (arith, long)) in
      let end : k ≡ length vs - 1 = omega (arith, long) in
      omega (arith, near, here, ap (λ q. get_or vs q 0) end, p.last))
      (cases_lt (suc k) (length vs))

  polygon_push : Polygon (suc j) (vs ++ (j ∷ []))
  polygon_push =
      let some : 0 < length vs = p.some in
      let end : length (vs ++ (j ∷ [])) - 1 ≡ length vs = omega (arith, long) in
      record {
        some = omega (arith, long);
        first = get_or_append_left vs (j ∷ []) 0 0 some ∙ p.first;
        last = ap (λ q. suc (get_or (vs ++ (j ∷ [])) q 0)) end ∙ ap suc (get_or_push vs j 0 (length vs) refl);
        rising = rising_push;
      }

pub rising_polygon : {j : ℕ} {vs : List ℕ} → Rising j vs → Polygon (suc j) vs
rising_polygon alone = polygon_alone
rising_polygon (higher {j = j} {vs = vs} r l) = polygon_push vs j (rising_polygon r) l

module _ {n : ℕ} {vs : List ℕ} (p : Polygon n vs) where
  rising_front : (m : ℕ) → m < length vs → Rising (get_or vs m 0) (take (m + 1) vs)
  rising_front zero l =
      subst (Rising (get_or vs 0 0)) (sym (take_more vs 0 0 l)) (subst (λ x. Rising x (x ∷ [])) (sym p.first) alone)
  rising_front (suc m) l =
      let next : m + 1 ≡ suc m = omega arith in
      let before : Rising (get_or vs m 0) (take (suc m) vs) = subst (λ q. Rising (get_or vs m 0) (take q vs)) next (rising_front m (omega arith)) in
      subst (Rising (get_or vs (suc m) 0)) (sym (take_more vs (suc m) 0 l)) (higher before (p.rising m l))

  pub polygon_rising : Rising (n - 1) vs
  polygon_rising =
      let some : 0 < length vs = p.some in
      let last : get_or vs (length vs - 1) 0 ≡ n - 1 = omega (arith, p.last) in
      let all : take (length vs - 1 + 1) vs ≡ vs = take_all (length vs - 1 + 1) vs (omega arith) in
      subst₂ Rising last all (rising_front (length vs - 1) (omega arith))

-- it has at most a vertex for each point
pub rising_short : {j : ℕ} {vs : List ℕ} → Rising j vs → length vs ≤ j + 1
rising_short alone = omega arith
rising_short (higher {j = j} {vs = vs} r l) = omega (arith, length_push vs j, rising_short r)
