-- What a session answers to a line, and what it keeps.
use Rattle.std.specs.Prelude.{◌≡◌, ℕ, ◌⊎◌, List, length, Some, None, Option, ◌≢◌}
use Rattle.coding.specs.Kinds.{kind_number, kind_table}
use Rattle.coding.specs.declared.kind.Kind.{Kind as Coding}
use Rattle.coding.specs.declared.kind.Kind.TheVariants.{Flat}
use Rattle.cost.specs.declared.bits.Bits.{Bits}
use Rattle.cost.specs.declared.price.Price.{Price}
use Rattle.cost.specs.declared.two_part.TwoPart.{TwoPart}
use Rattle.measure.specs.Choice.{chosen_strays}
use Rattle.measure.specs.Fractions.{fraction}
use Rattle.measure.specs.declared.chosen.Chosen.{Chosen}
use Rattle.measure.specs.declared.chosen.Chosen.TheVariants.{Line}
use Rattle.measure.specs.declared.fraction.Fraction.{Fraction}
use Rattle.outline.specs.Plain.{plain, new_plain}
use Rattle.outline.specs.declared.refusal.Refusal.TheVariants.{Kind as UnknownKind, Tolerance}
use Rattle.replay.specs.Right.{Tools, tools}
use Rattle.replay.specs.declared.answer.Answer.{Answer}
use Rattle.replay.specs.declared.call.Call.{Call}
use Rattle.replay.specs.declared.call.Call.TheVariants.{Open as open_call, Extend as extend_call, Retract as retract_call, Least as least_call, Cheapest as cheapest_call, Finest as finest_call, Closest as closest_call}
use Rattle.search.specs.Cheapest.{priced_cost}
use Rattle.weighing.specs.Deviations.{deviation_cost}
use Rattle.weighing.specs.Weighers.{priced_weight, straying_weight}
use Rattle.weighing.specs.declared.deviation.Deviation.{Deviation}
use Rattle.scripts.specs.Commands.{command_text, Fitting}
use Rattle.scripts.specs.Makes.{Makes}
use Rattle.scripts.specs.Replies.{told_refusal, told_priced, told_straying, reply_of}
use Rattle.scripts.specs.declared.command.Command.{Command}
use Rattle.scripts.specs.declared.command.Command.TheVariants.{Kind, Measure, Rows, List as ListPlaces, Open, Extend, Retract, LeastPriced, LeastStraying, Cheapest, Finest, Closest}
use Rattle.scripts.specs.declared.places.Places.{Places}
use Rattle.scripts.specs.declared.reply.Reply.{Reply}
use Rattle.scripts.specs.declared.reply.Reply.TheVariants.{Accepted, NoCall}
use Rattle.scripts.specs.declared.session.Session.{Session}

-- A session begins with a new outline, flat codes, the measure line, and 256 rows and list places.
pub record NewSession (s : Session) : Type 0 where
  pub outline : plain s.outline ≡ new_plain
  pub kind : s.kind ≡ Flat
  pub measure : s.measure ≡ Line
  pub rows : s.rows.count ≡ 256
  pub list : s.list.count ≡ 256

-- The session's codes and measure, with the straying weigher.
abbrev pub straying_tools : Session → Tools Deviation Fraction
straying_tools s = tools deviation_cost (straying_weight (kind_table s.kind) (chosen_strays s.measure)) (kind_table s.kind) (chosen_strays s.measure)

-- The session's codes and measure, with the priced weigher at a tolerance.
abbrev pub priced_tools : Session → Fraction → Tools (TwoPart Bits Deviation) (Price × Fraction)
priced_tools s t = tools priced_cost (priced_weight (kind_table s.kind) (chosen_strays s.measure) t) (kind_table s.kind) (chosen_strays s.measure)

-- Kind, measure and the lengths of lent memory are kept.
pub record SameSettings (s u : Session) : Type 0 where
  pub kind : u.kind ≡ s.kind
  pub measure : u.measure ≡ s.measure
  pub rows : u.rows ≡ s.rows
  pub list : u.list ≡ s.list

-- A call with the session's tools and lent memory is answered right, the reply tells the answer, and the settings are kept.
pub record Asked {C W : Type 0} (t : Tools C W) (tell : List ℕ → ℕ → C → Reply) (s : Session) (c : Call) (r : Reply) (u : Session) : Type 0 where
  pub lent : List ℕ
  pub left : List ℕ
  pub answer : Answer C
  pub long : length lent ≡ s.list.count
  pub makes : Makes t (plain s.outline) s.rows.count lent c answer (plain u.outline) left
  pub told : r ≡ reply_of tell left answer
  pub settings : SameSettings s u

-- The session with another kind, measure, number of rows or number of list places.
abbrev pub with_kind : Session → Coding → Session
with_kind s k = record { outline = s.outline; kind = k; measure = s.measure; rows = s.rows; list = s.list }

abbrev pub with_measure : Session → Chosen → Session
with_measure s m = record { outline = s.outline; kind = s.kind; measure = m; rows = s.rows; list = s.list }

abbrev pub with_rows : Session → Places → Session
with_rows s p = record { outline = s.outline; kind = s.kind; measure = s.measure; rows = p; list = s.list }

abbrev pub with_list : Session → Places → Session
with_list s p = record { outline = s.outline; kind = s.kind; measure = s.measure; rows = s.rows; list = p }

-- A number of a kind changes the kind alone; any other is refused by 7 and changes nothing.
pub record KindSet (s : Session) (n : ℕ) (r : Reply) (u : Session) : Type 0 where
  pub known : (k : Coding) → kind_number k ≡ n → (r ≡ Accepted) × (u ≡ with_kind s k)
  pub unknown : ((k : Coding) → kind_number k ≢ n) → (r ≡ told_refusal UnknownKind) × (u ≡ s)

-- Least with the priced weigher at a tolerance; where the tolerance is no fraction it is refused by 4 and changes nothing.
abbrev pub PricedAsked : Session → Option Fraction → Reply → Session → Type 0
PricedAsked s (Some t) r u = Asked (priced_tools s t) told_priced s least_call r u
PricedAsked s None r u = (r ≡ told_refusal Tolerance) × (u ≡ s)

-- The reply to a command, and the session after it.
abbrev pub Answers : Session → Command → Reply → Session → Type 0
Answers s (Kind number) r u = KindSet s number r u
Answers s (Measure chosen) r u = (r ≡ Accepted) × (u ≡ with_measure s chosen)
Answers s (Rows places) r u = (r ≡ Accepted) × (u ≡ with_rows s places)
Answers s (ListPlaces places) r u = (r ≡ Accepted) × (u ≡ with_list s places)
Answers s (Open width height col row) r u = Asked (straying_tools s) told_straying s (open_call width height col row) r u
Answers s (Extend direction) r u = Asked (straying_tools s) told_straying s (extend_call direction) r u
Answers s Retract r u = Asked (straying_tools s) told_straying s retract_call r u
Answers s (LeastPriced top bottom) r u = PricedAsked s (fraction top bottom) r u
Answers s LeastStraying r u = Asked (straying_tools s) told_straying s least_call r u
Answers s (Cheapest top bottom) r u = Asked (straying_tools s) told_straying s (cheapest_call top bottom) r u
Answers s Finest r u = Asked (straying_tools s) told_straying s finest_call r u
Answers s (Closest budget) r u = Asked (straying_tools s) told_straying s (closest_call budget) r u

-- The command of a line is answered.
abbrev pub Called : Session → List ℕ → Reply → Session → Type 0
Called s line r u = (c : Command) × Fitting c × (line ≡ command_text c) × Answers s c r u

-- A line that is the text of no command is told by its number, and changes nothing.
abbrev pub Uncalled : Session → ℕ → List ℕ → Reply → Session → Type 0
Uncalled s n line r u = ((c : Command) → Fitting c → line ≢ command_text c) × (r ≡ NoCall n) × (u ≡ s)

-- The reply to the line of a number.
abbrev pub LineAnswered : Session → ℕ → List ℕ → Reply → Session → Type 0
LineAnswered s n line r u = Called s line r u ⊎ Uncalled s n line r u
