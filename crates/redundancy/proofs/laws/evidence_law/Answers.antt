use Rattle.redundancy.proofs.EvidenceTrees.{undetectable, only_evidence, WordHolds-evidence, one_tree_of_word, evidence_of_undetectable, undetectable_by_evidence}
use Rattle.redundancy.proofs.Full.{full-leaf, leaf-full}
use Rattle.redundancy.proofs.laws.evidence_law.Goals as goal

pub returns : goal.returns
returns c =
    let tells = c.leaf_law.ensures in
    record {
      sound = λ n fault word valid. undetectable n fault word (λ d. tells n fault d valid);
      full = λ n fault d valid full. (leaf-full n fault d (tells n fault d valid), full-leaf n fault d (tells n fault d valid) full);
      worked = λ n fault d valid. (tells n fault d valid).worked;
      exists = λ n fault valid. (λ (t, is). undetectable_by_evidence n fault (λ d. tells n fault d valid) t is, evidence_of_undetectable n fault (λ d. tells n fault d valid));
      only = only_evidence;
      proves = WordHolds-evidence;
      reads = one_tree_of_word;
    }
