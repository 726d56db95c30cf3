-- The rules that every outline keeps.
use Rattle.std.specs.Prelude.{◌≤◌, length}
use Rattle.outline.specs.Held.{Framed, Traced}
use Rattle.outline.specs.Plain.{Plain}

-- A frame of 1 to 1,024 pels each way, 1 to 256 points in it, each after the first moved by a direction from the one before.
pub record Rules (p : Plain) : Type 0 where
  pub wide : (1 ≤ p.width) × (p.width ≤ 1024)
  pub tall : (1 ≤ p.height) × (p.height ≤ 1024)
  pub count : (1 ≤ length p.points) × (length p.points ≤ 256)
  pub framed : Framed p.width p.height p.points
  pub traced : Traced p.width p.height p.points
