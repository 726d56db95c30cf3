-- A call that is made with lent memory.
use Rattle.std.specs.Prelude.{◌≡◌, ℕ, List, length}
use Rattle.outline.specs.Plain.{Plain}
use Rattle.replay.specs.Right.{Tools, State, Right}
use Rattle.replay.specs.declared.answer.Answer.{Answer}
use Rattle.replay.specs.declared.call.Call.{Call}

-- A call on an outline with so many rows of each kind and a list: its answer is right, and leaves this outline and this list.
pub record Makes {C W : Type 0} (t : Tools C W) (p : Plain) (rows : ℕ) (list : List ℕ) (c : Call) (a : Answer C) (q : Plain) (left : List ℕ) : Type 0 where
  pub before : State C
  pub after : State C
  pub outline : before.outline ≡ p
  pub own : length before.rows ≡ rows
  pub priced : length before.priced ≡ rows
  pub straying : length before.straying ≡ rows
  pub lent : before.list ≡ list
  pub right : Right t before c a after
  pub outline_left : after.outline ≡ q
  pub list_left : after.list ≡ left
