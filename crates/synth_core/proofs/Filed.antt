-- The vector file of the network of names and expansions keeps the rules of a vector file.
use Rattle.std.proofs.Common.{◌≡◌, ◌≤◌, ◌+◌, ◌-◌, ℕ, suc, Bool, true, List, [], ◌∷◌, ◌++◌, length, map, get_or, refl, sym, ap, ◌∙◌, subst, arith}
use Rattle.std.specs.Prelude.{All, None}
use Rattle.std.proofs.lemmas.Bool.{and_parts, false≢true}
use Rattle.std.proofs.Math.Seq.{drop-append_seam}
use Rattle.std.proofs.lemmas.List.{length-append, length-map}
use Rattle.std.proofs.lemmas.List.Elements.{All-append, All-map, All-drop, All-weaker, recursion_from_All}
use Rattle.ae_base.specs.Mask.{Set, first, where_below}
use Rattle.ae_base.specs.Cube.{IsSigns, Signs}
use Rattle.ae_base.specs.declared.limits.TheConstants.{SOURCE_NAME_BYTES, WRITTEN_LINES}
use Rattle.ae_base.specs.Name.{is_name}
use Rattle.ae_base.specs.Terms.{IsPoint}
use Rattle.ae_base.proofs.Sets.{has-first, has-inside, has-where_below}
use Rattle.ae_net.specs.Network.{Network, gate_at}
use Rattle.ae_net.specs.Valid.{IsValid, IsDistinct}
use Rattle.ae_net.specs.Out.{out}
use Rattle.ae_net.specs.Names.{IsNames, Names}
use Rattle.esop.specs.Esop.{Cubes}
use Rattle.expansion.specs.Terms.{Terms}
use Rattle.cascade.specs.Shows.{CanBuild, HasInputNames, HasPortNames, reddy_net}
use Rattle.input_tests.specs.Whole.{cascade_tests}
use Rattle.ae_base.specs.declared.form.Form.TheVariants.{Reddy}
use Rattle.vec_text.specs.declared.file.Idle.{Idle}
use Rattle.vec_text.specs.VectorFile.{VectorFile, IsCubeOf, IsValidVectorFile}
use Rattle.synth_core.specs.Made.{lines_from}
use Rattle.synth_core.specs.Steps.{vectors_of, factored_file, file_over, reddy_file, AreCascadePoints, AreTests, IsFactoredNet}
use Rattle.synth_core.proofs.Lines.{are_cubes}
use Rattle.synth_core.proofs.Shown.{listed_distinct}

-- ---- points

-- a set of numbers below n that pass a test is a point of n inputs
where_point : (n : ℕ) (test : ℕ → Bool) → IsPoint n (where_below n test)
where_point n test = has-inside (where_below n test) (first n) (λ k h. has-first n k ∙ (and_parts _ _ (sym (has-where_below n test k) ∙ h)).0)

-- ---- vectors

pub points-vectors_of : (n : Network) (xs : List Set) → map (λ v. v.point) (vectors_of n xs) ≡ xs
points-vectors_of n [] = refl
points-vectors_of n (x ∷ xs) = ap (λ rest. x ∷ rest) (points-vectors_of n xs)

pub length-vectors_of : (n : Network) (xs : List Set) → length (vectors_of n xs) ≡ length xs
length-vectors_of n [] = refl
length-vectors_of n (x ∷ xs) = ap suc (length-vectors_of n xs)

out_point : (n : Network) (x : Set) → IsPoint (length n.outputs) (out n None x)
unfolding out
out_point n x = where_point (length n.outputs) _

pub same_file : (n m : Network) (outputs names : List (List ℕ)) (p q : Signs) (xs ys : List Set) → n ≡ m → outputs ≡ names → p ≡ q → xs ≡ ys
    → file_over Reddy n outputs p [] xs [] ≡ file_over Reddy m names q [] ys []
same_file n m outputs names p q xs ys a b c d = rw (a, b, c, d) refl

-- ---- names

outputs_are_named : (names : Names) → IsNames names → All (λ name. is_name name ≡ true) names.outputs
outputs_are_named names named =
    subst (All (λ name. is_name name ≡ true)) (drop-append_seam names.inputs names.outputs)
    (All-drop (λ name. is_name name ≡ true) (length names.inputs) (names.inputs ++ names.outputs)
    (All-weaker (λ name. (is_name name ≡ true) × (length name ≤ SOURCE_NAME_BYTES)) (λ name. is_name name ≡ true) (λ name h. h.0) (names.inputs ++ names.outputs) named.each))

-- ---- the file

module _ (names : Names) (e : Terms) (can : CanBuild names e) where
  abbrev k : ℕ
  k = length names.inputs

  abbrev net : Network
  net = reddy_net names e

  abbrev points : List Set
  points = cascade_tests e

  abbrev file : VectorFile
  file = reddy_file names e

  module _ (valid : IsValid net) (inputs : HasInputNames net names.inputs) (ports : HasPortNames net names.outputs) where
    length-inputs : length net.inputs ≡ suc k
    length-inputs = ap length (inputs.1) ∙ length-append names.inputs (inputs.0 ∷ []) ∙ add_one k
      where
        add_one : (m : ℕ) → m + 1 ≡ suc m
        add_one m = omega arith

    length-outputs : length net.outputs ≡ length names.outputs
    length-outputs = sym (length-map net.outputs _) ∙ ap length ports

    pub few_inputs : length net.inputs ≤ WRITTEN_LINES
    few_inputs = omega (arith, length-inputs, can.named.few_inputs)

    pub few_outputs : length net.outputs ≤ WRITTEN_LINES
    few_outputs = omega (arith, length-outputs, can.named.few_outputs)

    control_is : e.polarity.n + 1 ≡ length net.inputs
    control_is = omega (arith, can.fits.inputs, length-inputs)

    pub is_valid_file : AreCascadePoints e → IsValidVectorFile file
    is_valid_file are_points = record {
      some_input = omega (arith, can.fits.inputs, can.named.some_input);
      signs = can.terms.signs;
      polarity = length-inputs ∙ ap suc (sym can.fits.inputs);
      few_inputs = few_inputs;
      some_output = can.named.some_output;
      few_outputs = omega (arith, can.named.few_outputs);
      named = All-append (λ name. is_name name ≡ true) net.inputs names.outputs valid.inputs_named (outputs_are_named names can.named);
      distinct = subst (λ names. IsDistinct (net.inputs ++ names)) ports (listed_distinct net valid);
      esop = λ i d l. absurd (omega (arith, l));
      unchanged = λ i d l. absurd (omega (arith, l));
      no_cubes = λ is. refl;
      none_listed = λ is. refl;
      points = All-map (λ v. IsPoint (length net.inputs) v.point) _ points (subst (λ m. All (IsPoint m) points) control_is are_points);
      responses = All-map (λ v. IsPoint (length names.outputs) v.outs) _ points (λ i d l. subst (λ m. IsPoint m (out net None (get_or points i d))) length-outputs (out_point net (get_or points i d)));
    }

-- ---- the file of a factored network

pub factored_inputs : (names : Names) (cubes : Cubes) (n : Network) → IsFactoredNet names cubes n → length n.inputs ≤ WRITTEN_LINES
factored_inputs names cubes n is = omega (arith, ap length is.names_are.inputs, is.named.few_inputs)

pub factored_outputs : (names : Names) (cubes : Cubes) (n : Network) → IsFactoredNet names cubes n → length n.outputs ≤ WRITTEN_LINES
factored_outputs names cubes n is = omega (arith, length-map n.outputs (λ s. (gate_at n (s - length n.inputs)).out), ap length is.names_are.ports, is.named.few_outputs)

pub is_valid_factored : (names : Names) (p : Signs) (cubes : Cubes) (n : Network) (points : List Set) (unchanged : List Idle)
    → IsSigns p → p.n ≡ cubes.n → IsFactoredNet names cubes n → AreTests n p points unchanged → IsValidVectorFile (factored_file names p cubes n points unchanged)
is_valid_factored names p cubes n points unchanged signs same is tests =
    let inputs : n.inputs ≡ names.inputs = is.names_are.inputs in
    let outputs : length n.outputs ≡ length names.outputs = sym (length-map n.outputs _) ∙ ap length is.names_are.ports in
    record {
      some_input = omega (arith, same, is.fits.inputs, is.named.some_input);
      signs = signs;
      polarity = ap length inputs ∙ sym is.fits.inputs ∙ sym same;
      few_inputs = omega (arith, ap length inputs, is.named.few_inputs);
      some_output = is.named.some_output;
      few_outputs = omega (arith, is.named.few_outputs);
      named = All-append (λ name. is_name name ≡ true) n.inputs names.outputs is.valid.inputs_named (outputs_are_named names is.named);
      distinct = subst (λ names. IsDistinct (n.inputs ++ names)) is.names_are.ports (listed_distinct n is.valid);
      esop = subst (λ k. All (IsCubeOf k (length names.outputs)) (lines_from 0 cubes.outs)) (is.fits.inputs ∙ sym (ap length inputs))
          (are_cubes cubes.n (length names.outputs) 0 cubes.outs (recursion_from_All _ cubes.outs is.cubes_valid.below) (omega (arith, is.fits.outputs)));
      points = All-map (λ v. IsPoint (length n.inputs) v.point) _ points tests.over;
      responses = All-map (λ v. IsPoint (length names.outputs) v.outs) _ points (λ i d l. subst (λ m. IsPoint m (out n None (get_or points i d))) outputs (out_point n (get_or points i d)));
      unchanged = tests.valid;
      no_cubes = λ is. absurd (false≢true (sym is));
      none_listed = λ is. absurd (false≢true (sym is));
    }
