use Rattle.expansion.proofs.Even.{are_even, even_counted}
use Rattle.expansion.proofs.UsedInputs.{are_used}
use Rattle.expansion.proofs.laws.even_law.Goals as goal

pub returns : goal.returns
returns c =
    let laws = c.expansion_law.ensures in
    record {
      used = λ s p e are. are_used s p e are laws.used laws.unused;
      even = λ s p e are. are_even s p e are laws.meaning are.polarity (are_used s p e are laws.used laws.unused);
      counted = even_counted;
    }
