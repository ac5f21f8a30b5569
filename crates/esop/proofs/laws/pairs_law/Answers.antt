use Rattle.esop.proofs.Places.{first_from, from_first, no_pair, pair_none}
use Rattle.esop.proofs.laws.pairs_law.Goals as goal

pub returns : goal.returns
returns c = record { first = λ q n p. (first_from q n p, from_first q n p); none = λ q n. (no_pair q n, pair_none q n) }
