use Rattle.std.proofs.Common.{◌≡◌, ◌++◌, false, map, take}
use Rattle.ae_net.specs.Named.{place_of}
use Rattle.blif_read.specs.Says.{some_unknown}
use Rattle.ae_lex.specs.Slices.{texts}
use Rattle.blif_read.proofs.draft.signals_of.Given as goal

abbrev pub invariant-loop-word : goal.invariant-loop-word
invariant-loop-word l =
    let known = l.inputs ++ l.driven in
    record {
      all_known : some_unknown known (texts (take l.word-index l.words)) ≡ false;
      signals : l.signals ≡ map (λ w. place_of w known) (texts (take l.word-index l.words));
    }
