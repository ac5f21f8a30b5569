-- What the definitions say of small texts.
use Rattle.std.proofs.Common.{◌≡◌, ℕ, Option, Some, None, ◌++◌, List, [], ◌∷◌, map, codes, refl, true, false}
use Rattle.std.specs.Prelude.{Result, Ok, Err}
use Rattle.std.specs.List.{repeat}
use Rattle.ae_lex.specs.Words.{word_lines, last_line}
use Rattle.ae_base.specs.Mask.{has, with, empty}
use Rattle.ae_net.specs.NetSource.{NetSource}
use Rattle.ae_net.specs.Network.{Network}
use Rattle.blif_read.specs.declared.fault.NetLimits.TheVariants.{Source, Written}
use Rattle.blif_read.specs.declared.fault.BlifFault.{BlifFault}
use Rattle.blif_read.specs.declared.fault.BlifFault.TheVariants as fault
use Rattle.ae_net.specs.declared.net.Gate.{Gate}
use Rattle.ae_lex.specs.First.{first_of}
use Rattle.ae_net.specs.Named.{net_of}
use Rattle.ae_base.specs.Digits.{cube_said}
use Rattle.blif_read.specs.SourceSays.{source_says}
use Rattle.blif_read.specs.Says.{blif_says, faults, place, gates_of, whole_fault}

half_adder : Network
half_adder = record {
  model = codes "adder";
  inputs = codes "a" ∷ codes "b" ∷ [];
  outputs = 4 ∷ 5 ∷ [];
  gates = record { out = codes "n1"; pins = 0 ∷ 1 ∷ []; rows = record { pos = 0; neg = 3 } ∷ []; on = false }
      ∷ record { out = codes "n2"; pins = 0 ∷ 1 ∷ []; rows = record { pos = 3; neg = 0 } ∷ []; on = false }
      ∷ record { out = codes "s"; pins = 2 ∷ 3 ∷ []; rows = record { pos = 3; neg = 0 } ∷ []; on = true }
      ∷ record { out = codes "c"; pins = 3 ∷ []; rows = record { pos = 0; neg = 1 } ∷ []; on = true } ∷ [];
}

-- small texts, each with what it says
cases : List (List ℕ × Result Network (ℕ × BlifFault))
cases =
    (codes ".model m\n.inputs a\n.outputs f\n.names a g f\n11 1\n.names f g\n1 1\n.end\n", Err (4, fault.Cycle))
    ∷ (codes ".model m\n.inputs a\n.outputs f\n.names a h f\n11 1\n.end\n", Err (4, fault.Undefined))
    ∷ (codes ".model m\n.inputs a\n.outputs f\n.names a f\n1 1\n.names a f\n0 1\n.end\n", Err (6, fault.DefinedTwice))
    ∷ (codes ".model adder   # half adder\n.inputs a \\\nb\n.outputs s c\n.names n1 n2 s\n11 1\n.names a b n1\n00 0\n.names a b n2\n11 0\n.names n2 c\n0 1\n.end x\n.names a q\n", Err (14, fault.AfterEnd))
    ∷ (codes ".model m\n.inputs a\n.outputs f\n.names a f\n1 1\n0 0\n", Err (6, fault.MixedRows))
    ∷ (codes ".model adder   # half adder\n.inputs a \\\n", Err (2, fault.NoOutputs))
    ∷ (codes ".model adder   # half adder\n.inputs a \\\nb\n.outputs s c\n.names n1 n2 s\n", Err (5, fault.Undefined))
    ∷ (codes ".model adder   # half adder\n.inputs a \\\nb\n.outputs s c\n.names n1 n2 s\n11 1\n.names a b n1\n00 0\n.names a b n2\n11 0\n", Err (4, fault.Undefined))
    ∷ (codes "", Err (0, fault.NoInputs))
    ∷ (codes ".inputs a \\\\\n\nb\n", Err (1, fault.BadName))
    ∷ (codes ".model m\n.inputs a\n.outputs f\n\n# x\n11 1\n", Err (6, fault.StrayRow))
    ∷ (codes ".model m\n.inputs a\n.outputs f\n.model n", Err (4, fault.TwoModels))
    ∷ (codes ".model m\n.inputs a\n.outputs f\n.end\n.model n", Err (5, fault.TwoModels))
    ∷ (codes ".model m\n.inputs a\n.outputs f\n.exdc\n.model n", Err (4, fault.Unsupported))
    ∷ (codes ".model m\n.inputs a\n.outputs f\n.foo\n", Err (4, fault.Unknown))
    ∷ (codes ".model m\n.inputs a\n.outputs f\n.names\n", Err (4, fault.BadName))
    ∷ (codes ".inputs a a", Err (1, fault.NameTwice))
    ∷ (codes ".outputs a\n.inputs b a", Err (2, fault.OutputIsInput))
    ∷ (codes ".names a\n.inputs b a", Err (2, fault.DefinedTwice))
    ∷ (codes ".names a\n11", Err (2, fault.BadRow))
    ∷ (codes ".names a\n-", Err (2, fault.BadRow))
    ∷ (codes ".model adder   # half adder\n.inputs a \\\nb\n.outputs s c\n.names n1 n2 s\n11 1\n.names a b n1\n00 0\n.names a b n2\n11 0\n.names n2 c\n0 1\n", Ok half_adder) ∷ []

each_says : map (λ c. blif_says Source c.0) cases ≡ map (λ c. c.1) cases
unfolding blif_says word_lines last_line faults place gates_of whole_fault net_of cube_said has with empty half_adder cases
each_says = refl

-- ---- external don't cares

-- seven lines: an OR, and the head of its don't care part
or_exdc : List ℕ
or_exdc = codes ".model m\n.inputs a b\n.outputs f\n.names a b f\n1- 1\n-1 1\n.exdc\n"

two_inputs : List Gate → Network
two_inputs gates = record { model = codes "m"; inputs = codes "a" ∷ codes "b" ∷ []; outputs = 2 ∷ []; gates = gates }

or_net : Network
or_net = two_inputs (record { out = codes "f"; pins = 0 ∷ 1 ∷ []; rows = record { pos = 1; neg = 0 } ∷ record { pos = 2; neg = 0 } ∷ []; on = true } ∷ [])

-- it is free where both inputs are 1
and_free : Network
and_free = two_inputs (record { out = codes "f"; pins = 0 ∷ 1 ∷ []; rows = record { pos = 3; neg = 0 } ∷ []; on = true } ∷ [])

-- it is nowhere free
zero_free : Network
zero_free = two_inputs (record { out = codes "f"; pins = []; rows = []; on = true } ∷ [])

-- a gate that no output shows stands before the constant
other_free : Network
other_free = record (two_inputs (record { out = codes "g"; pins = 0 ∷ []; rows = record { pos = 1; neg = 0 } ∷ []; on = true } ∷ record { out = codes "f"; pins = []; rows = []; on = true } ∷ [])) { outputs = 3 ∷ [] }

-- what follows the head, with what the text says then
part_cases : List (List ℕ × Result NetSource (ℕ × BlifFault))
part_cases =
    (codes ".names a b f\n11 1\n.end\n", Ok (record { net = or_net; free = Some and_free }))
    ∷ (codes ".names a b f\n11 1", Ok (record { net = or_net; free = Some and_free }))
    ∷ (codes ".inputs b a\n.inputs a\n.outputs f f\n", Ok (record { net = or_net; free = Some zero_free }))
    ∷ (codes ".names a g\n1 1\n.end", Ok (record { net = or_net; free = Some other_free }))
    ∷ (codes ".outputs g\n11 1\n.end\n", Err (8, fault.ExdcName))
    ∷ (codes ".inputs a f\n", Err (8, fault.ExdcName))
    ∷ (codes ".inputs \\\\\n", Err (8, fault.BadName))
    ∷ (codes ".names a b f\n11 1\n.exdc\n", Err (10, fault.ExdcTwice))
    ∷ (codes ".names a q f\n11 1\n.end\n", Err (8, fault.Undefined))
    ∷ (codes ".names f g\n1 1\n", Err (8, fault.Undefined))
    ∷ (codes ".names g f\n1 1\n.names f g\n1 1\n", Err (8, fault.Cycle))
    ∷ (codes ".model m\n", Err (8, fault.TwoModels))
    ∷ (codes ".end\n.model m\n", Err (9, fault.TwoModels))
    ∷ (codes ".end\n.exdc\n", Err (9, fault.AfterEnd))
    ∷ (codes ".names\n", Err (8, fault.BadName))
    ∷ (codes ".names b a\n", Err (8, fault.DefinedTwice))
    ∷ (codes ".names a f\n.names b f\n", Err (9, fault.DefinedTwice))
    ∷ (codes "11 1\n", Err (8, fault.StrayRow))
    ∷ (codes ".names a f\n11 1\n", Err (9, fault.BadRow))
    ∷ (codes ".names a f\n1 1\n0 0\n", Err (10, fault.MixedRows))
    ∷ (codes ".latch a f\n", Err (8, fault.Unsupported))
    ∷ (codes ".foo\n", Err (8, fault.Unknown)) ∷ []

each_part_says : map (λ c. source_says (or_exdc ++ c.0)) part_cases ≡ map (λ c. c.1) part_cases
unfolding source_says word_lines last_line faults place gates_of whole_fault net_of cube_said has with empty or_exdc two_inputs or_net and_free zero_free other_free part_cases
each_part_says = refl

-- in whole texts: without a part; faults of lines, then those of the model, then those of the part
whole_cases : List (List ℕ × Result NetSource (ℕ × BlifFault))
whole_cases =
    (codes ".model m\n.inputs a b\n.outputs f\n.names a b f\n1- 1\n-1 1\n.end\n", Ok (record { net = or_net; free = None }))
    ∷ (codes ".inputs a\n.outputs f\n.end\n.exdc\n", Err (4, fault.AfterEnd))
    ∷ (codes ".inputs a\n.outputs f\n.exdc\n.foo\n", Err (4, fault.Unknown))
    ∷ (codes ".inputs a\n.outputs f\n.exdc\n.names q f\n", Err (2, fault.Undefined))
    ∷ (codes ".inputs a\n.exdc\n.names q f\n", Err (3, fault.NoOutputs))
    ∷ (codes ".inputs a\n.outputs f\n.names f f\n.exdc\n.names q f\n", Err (3, fault.Cycle)) ∷ []

each_whole_says : map (λ c. source_says c.0) whole_cases ≡ map (λ c. c.1) whole_cases
unfolding source_says word_lines last_line faults place gates_of whole_fault net_of cube_said has with empty two_inputs or_net whole_cases
each_whole_says = refl

-- as a netlist that is to be graded the text is refused
no_part : blif_says Written (or_exdc ++ codes ".names a b f\n11 1\n.end\n") ≡ Err (7, fault.Unsupported)
unfolding blif_says word_lines last_line faults place gates_of whole_fault net_of cube_said has with empty or_exdc
no_part = refl

-- of a `.names` in a part with 257 pins
many_pins : first_of (faults Source (Some (record { inputs = codes "a" ∷ []; outputs = codes "f" ∷ [] })) [] (codes ".names" ∷ repeat 258 (codes "a" ∷ []))) ≡ Some fault.TooManyPins
unfolding faults gates_of
many_pins = refl
