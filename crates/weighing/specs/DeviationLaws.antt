-- The laws of deviations.
use Rattle.std.specs.Prelude.{◌≡◌, false}
use Rattle.std.proofs.lemmas.Bool.{cond_both}
use Rattle.cost.specs.Cost.{Laws}
use Rattle.measure.specs.declared.fraction.Fraction.{Fraction}
use Rattle.measure.specs.Fractions.{above, wider}
use Rattle.measure.proofs.Order.{above_one_way, not_above_through}
use Rattle.measure.proofs.Widening.{wider_covers, wider_grows}
use Rattle.weighing.specs.Deviations.{deviation_cost}

-- what neither of two is above, neither's wider is above
pub wider_least : (a b c : Fraction) → above a c ≡ false → above b c ≡ false → above (wider a b) c ≡ false
wider_least a b c first second = cond_both (above b a) b a (λ x. above x c ≡ false) (λ _. second) (λ _. first)

pub deviation_laws : Laws deviation_cost
deviation_laws = record {
  compares = λ a b u v h. above_one_way a.value b.value h;
  transitive = λ a b c u v t h l. not_above_through a.value b.value c.value h l;
  keeps = λ a b w u v h. let x = a.value in let y = b.value in
      wider_least x w (wider y w) (not_above_through x y (wider y w) h (wider_grows y w)) (wider_covers y w);
}
