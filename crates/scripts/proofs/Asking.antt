-- The front of lent memory, and weighers that hold the session's kind and measure.
use Rattle.std.proofs.Common.{◌≡◌, ℕ, ◌≤◌, List, length, take, refl, ◌∙◌, subst, arith, length-take-le}
use Rattle.coding.specs.Kinds.{kind_table}
use Rattle.coding.specs.declared.kind.Kind.{Kind}
use Rattle.cost.specs.declared.bits.Bits.{Bits}
use Rattle.cost.specs.declared.price.Price.{Price}
use Rattle.cost.specs.declared.two_part.TwoPart.{TwoPart}
use Rattle.measure.specs.Choice.{chosen_strays}
use Rattle.measure.specs.declared.chosen.Chosen.{Chosen}
use Rattle.measure.specs.declared.fraction.Fraction.{Fraction}
use Rattle.outline.specs.Plain.{plain}
use Rattle.replay.specs.Right.{Tools, State, Right, tools}
use Rattle.replay.specs.declared.answer.Answer.{Answer}
use Rattle.replay.specs.declared.call.Call.{Call}
use Rattle.search.specs.Cheapest.{priced_cost}
use Rattle.weighing.specs.Deviations.{deviation_cost}
use Rattle.weighing.specs.Weighers.{priced_weight, straying_weight}
use Rattle.weighing.specs.declared.deviation.Deviation.{Deviation}
use Rattle.scripts.specs.Replies.{told_priced, told_straying, reply_of}
use Rattle.scripts.specs.Sessions.{Asked, SameSettings}
use Rattle.scripts.specs.declared.reply.Reply.{Reply}
use Rattle.scripts.specs.declared.session.Session.{Session}

-- the first places of lent memory
pub front_of : {A : Type 0} (n : ℕ) (xs : List A) (count : ℕ) → length xs ≡ 256 → n ≡ count → count ≤ 256 → length (take n xs) ≡ count
front_of n xs count full is few = length-take-le n xs (omega arith) ∙ is

-- a call that is made right is answered right
pub asked : {C W : Type 0} (t : Tools C W) (tell : List ℕ → ℕ → C → Reply) (s u : Session) (call : Call) (a : Answer C) (before after : State C) (r : Reply) → Right t before call a after
    → before.outline ≡ plain s.outline → length before.rows ≡ s.rows.count → length before.priced ≡ s.rows.count → length before.straying ≡ s.rows.count → length before.list ≡ s.list.count
    → after.outline ≡ plain u.outline → r ≡ reply_of tell after.list a → SameSettings s u → Asked t tell s call r u
asked t tell s u call a before after r right outline own priced straying long outline_left told settings = record {
  lent = before.list;
  left = after.list;
  answer = a;
  long = long;
  makes = record {
    before = before;
    after = after;
    outline = outline;
    own = own;
    priced = priced;
    straying = straying;
    lent = refl;
    right = right;
    outline_left = outline_left;
    list_left = refl;
  };
  told = told;
  settings = settings;
}

-- tools by a kind and a measure of the weigher's own
abbrev straying_by : Kind → Chosen → Kind → Chosen → Tools Deviation Fraction
straying_by k m held_kind held_measure = tools deviation_cost (straying_weight (kind_table held_kind) (chosen_strays held_measure)) (kind_table k) (chosen_strays m)

abbrev priced_by : Fraction → Kind → Chosen → Kind → Chosen → Tools (TwoPart Bits Deviation) (Price × Fraction)
priced_by t k m held_kind held_measure = tools priced_cost (priced_weight (kind_table held_kind) (chosen_strays held_measure) t) (kind_table k) (chosen_strays m)

pub straying_asked : (k : Kind) (m : Chosen) (hk : Kind) (hm : Chosen) → hk ≡ k → hm ≡ m → (s : Session) (c : Call) (r : Reply) (u : Session) → Asked (straying_by k m hk hm) told_straying s c r u → Asked (straying_by k m k m) told_straying s c r u
straying_asked k m hk hm ek em s c r u asked =
    subst (λ (x : Chosen). Asked (straying_by k m k x) told_straying s c r u) em (subst (λ (x : Kind). Asked (straying_by k m x hm) told_straying s c r u) ek asked)

pub priced_asked : (t : Fraction) (k : Kind) (m : Chosen) (hk : Kind) (hm : Chosen) → hk ≡ k → hm ≡ m → (s : Session) (c : Call) (r : Reply) (u : Session) → Asked (priced_by t k m hk hm) told_priced s c r u → Asked (priced_by t k m k m) told_priced s c r u
priced_asked t k m hk hm ek em s c r u asked =
    subst (λ (x : Chosen). Asked (priced_by t k m k x) told_priced s c r u) em (subst (λ (x : Kind). Asked (priced_by t k m x hm) told_priced s c r u) ek asked)
