-- The kinds by their numbers.
use Rattle.std.proofs.Common.{◌≡◌, ℕ, Bool, true, false, cond, eqb, List, [], ◌∷◌, Some, None, Option, sym, refl, ap, ◌∙◌, subst, arith}
use Rattle.std.proofs.lemmas.Bool.{cond-false, ne_eqb}
use Rattle.outline.specs.declared.point.Point.{Point}
use Rattle.coding.specs.declared.kind.Kind.{Kind}
use Rattle.coding.specs.declared.kind.Kind.TheVariants.{Flat, Run, Axis, Chain, RunFlat}
use Rattle.coding.specs.Kinds.{by_direction, run_code, axis_code, chain_code, flat, kind_number, kind_table}
use Rattle.coding.specs.Tables.{Table, Codes}
use Rattle.coding.specs.Axes.{axis_legs}
use Rattle.coding.specs.Chains.{chain_legs}
use Rattle.coding.specs.Flats.{flat_codes}
use Rattle.coding.specs.Legs.{leg_codes}
use Rattle.coding.specs.Pairs.{pair_codes}
use Rattle.coding.specs.Runs.{run_legs}
use Rattle.records.specs.Reading.{Kinds, only, numbered, all_kinds, Accepted}
use Rattle.records.proofs.Acceptance.{only_kind}

by_number : (k : Kind) → all_kinds (kind_number k) ≡ Some (kind_table k)
by_number Flat = refl
by_number Run = refl
by_number Axis = refl
by_number Chain = refl
by_number RunFlat = refl

-- the table of a kind that has the number
pub kind_known : (k : Kind) (n : ℕ) → kind_number k ≡ n → all_kinds n ≡ Some (kind_table k)
kind_known k n e = ap all_kinds (sym e) ∙ by_number k

-- no kind has the number
none_numbered : (ks : List Kind) (n : ℕ) → ((k : Kind) → kind_number k ≡ n → ⊥) → numbered ks n ≡ None
none_numbered [] n none = refl
none_numbered (k ∷ ks) n none = cond-false (eqb n (kind_number k)) _ _ (ne_eqb n (kind_number k) (λ e. none k (sym e))) ∙ none_numbered ks n none

pub kind_unknown : (n : ℕ) → ((k : Kind) → kind_number k ≡ n → ⊥) → all_kinds n ≡ None
kind_unknown n none = none_numbered (Flat ∷ Run ∷ Axis ∷ Chain ∷ RunFlat ∷ []) n none

kind_codes : (k : Kind) → Codes (kind_table k)
kind_codes Flat = flat_codes
kind_codes Run = leg_codes run_code run_legs
kind_codes Axis = leg_codes axis_code axis_legs
kind_codes Chain = leg_codes chain_code chain_legs
kind_codes RunFlat = pair_codes (by_direction run_code) flat (leg_codes run_code run_legs) flat_codes

first_or_other : (b : Bool) (k : Kind) (others : Option Table) (t : Table) → cond b (Some (kind_table k)) others ≡ Some t → (others ≡ Some t → Codes t) → Codes t
first_or_other true k others t e other = let same : kind_table k ≡ t = cc in subst Codes same (kind_codes k)
first_or_other false k others t e other = other e

numbered_codes : (ks : List Kind) (n : ℕ) (t : Table) → numbered ks n ≡ Some t → Codes t
numbered_codes [] n t e = let z : ◌≡◌ {A = ℕ} 0 1 = cc in absurd (omega arith)
numbered_codes (k ∷ ks) n t e = first_or_other (eqb n (kind_number k)) k (numbered ks n) t e (λ s. numbered_codes ks n t s)

-- every kind's table keeps what tables keep
pub kinds_codes : (n : ℕ) (t : Table) → all_kinds n ≡ Some t → Codes t
kinds_codes n t e = numbered_codes (Flat ∷ Run ∷ Axis ∷ Chain ∷ RunFlat ∷ []) n t e

-- a record of one kind for a reader of more
pub accepted_more : (known : Kinds) (kind : ℕ) (t : Table) → known kind ≡ Some t → (bs : List ℕ) (vs : List Point) (n : ℕ) → Accepted (only kind t) bs kind vs n → Accepted known bs kind vs n
accepted_more known kind t e bs vs n a =
    let both : Some t ≡ Some a.table = sym (only_kind kind kind t refl) ∙ a.known_kind in
    record {
      table = a.table;
      known_kind = e ∙ both;
      bytes = a.bytes;
      written = a.written;
      begins = a.begins;
      takes = a.takes;
      inside = a.inside;
    }
