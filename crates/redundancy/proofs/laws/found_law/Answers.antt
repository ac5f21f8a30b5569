use Rattle.redundancy.proofs.Growths.{only_found, tells, too_wide}
use Rattle.redundancy.proofs.laws.found_law.Goals as goal

pub returns : goal.returns
returns c =
    let each = c.leaf_law.ensures in
    record {
      only = λ n fault f g valid. only_found n fault (λ d. each n fault d valid) f g;
      tells = λ n fault f valid. tells n fault (λ d. each n fault d valid) f;
      wide = λ n fault t valid. too_wide n fault (λ d. each n fault d valid) t;
    }
