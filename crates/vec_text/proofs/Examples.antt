-- What the definitions say of small texts.
use Rattle.std.proofs.Common.{◌≡◌, false, [], ◌∷◌, codes, refl}
use Rattle.std.specs.Prelude.{Ok, Err}
use Rattle.ae_lex.specs.Words.{word_lines, last_line}
use Rattle.ae_base.specs.Mask.{with, empty}
use Rattle.vec_text.specs.declared.fault.VecFault.TheVariants.{NoHead, BadNames, OutOfOrder, NoEnd}
use Rattle.ae_base.specs.declared.form.Form.TheVariants.{Factored}
use Rattle.vec_text.specs.declared.file.PlaceName.TheVariants.{Stem}
use Rattle.vec_text.specs.declared.file.Shown.TheVariants.{Tree}
use Rattle.ae_base.specs.declared.step.Step.TheVariants.{L}
use Rattle.ae_base.specs.Digits.{value, is_number, are_bits, ones, cube_said}
use Rattle.vec_text.specs.Words.{are_names, is_cube, is_tree, shown_said}
use Rattle.vec_text.specs.Says.{line_faults, file_of, vec_says}

no_text : vec_says (codes "# nothing\n") ≡ Err (1, NoHead)
unfolding vec_says word_lines last_line line_faults file_of
no_text = refl

no_control : vec_says (codes "andexor-vectors 1\nform reddy\ninputs a\n") ≡ Err (3, BadNames)
unfolding vec_says word_lines last_line line_faults file_of are_names
no_control = refl

end_first : vec_says (codes "end\nform x") ≡ Err (1, NoHead)
unfolding vec_says word_lines last_line line_faults file_of
end_first = refl

no_end : vec_says (codes "andexor-vectors 1\nform reddy\n\n") ≡ Err (3, NoEnd)
unfolding vec_says word_lines last_line line_faults file_of
no_end = refl

early_end : vec_says (codes "andexor-vectors 1\nform reddy\nend\nform x\n") ≡ Err (3, OutOfOrder)
unfolding vec_says word_lines last_line line_faults file_of
early_end = refl

-- an input that its output shows
one_input : vec_says (codes "andexor-vectors 1\nform factored\ninputs a\noutputs f\npolarity 1\nesop 1 1\nvector 1 1\nunchanged stem a 0 L\nend")
    ≡ Ok (record {
      form = Factored;
      inputs = codes "a" ∷ [];
      outputs = codes "f" ∷ [];
      polarity = record { n = 1; plain = 1 };
      esop = record { output = 0; cube = record { pos = 1; neg = 0 } } ∷ [];
      vectors = record { point = 1; outs = 1 } ∷ [];
      unchanged = record { place = Stem (codes "a"); value = false; shown = Tree (L ∷ []) } ∷ [];
    })
unfolding vec_says word_lines last_line line_faults file_of are_names value is_number are_bits ones is_cube cube_said is_tree shown_said with empty
one_input = refl
