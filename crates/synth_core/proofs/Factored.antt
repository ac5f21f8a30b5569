-- What is synthesised of a source's expansions in factored form.
use Rattle.std.proofs.Common.{◌≡◌, ◌<◌, ◌≤◌, ℕ, zero, suc, Bool, List, [], ◌∷◌, inl, length, map, get_or, refl, sym, ap, ap₂, ◌∙◌, subst, arith}
use Rattle.std.specs.Prelude.{Option, None, Ok, Some, slice_get}
use Rattle.std.proofs.lemmas.List.Elements.{All-map}
use Rattle.ae_net.specs.declared.net.Fault.{Fault}
use Rattle.ae_net.specs.Out.{out}
use Rattle.ae_net.specs.Valid.{IsValid}
use Rattle.test_gen.specs.Undetectable.{IsComplete}
use Rattle.vec_text.specs.declared.file.Idle.{Idle}
use Rattle.std.specs.List.{AllZip}
use Rattle.std.proofs.lemmas.Option.{slice_get-get_or}
use Rattle.ae_base.specs.Mask.{Set, has}
use Rattle.ae_base.specs.Cube.{Product, Signs}
use Rattle.ae_base.specs.Terms.{IsPoint, value}
use Rattle.ae_base.specs.Source.{Source, on_set}
use Rattle.ae_net.specs.Network.{Network}
use Rattle.ae_net.specs.Lead.{lead}
use Rattle.ae_net.specs.Run.{Shows}
use Rattle.ae_net.specs.Implements.{AreSpecified}
use Rattle.ae_net.specs.Names.{Names, IsLead}
use Rattle.ae_net.specs.Blif.{blif_text}
use Rattle.blif_read.specs.declared.fault.NetLimits.TheVariants.{Written}
use Rattle.blif_read.specs.Says.{blif_says}
use Rattle.esop.specs.Esop.{Cubes, HasValueOf, esop_value}
use Rattle.expansion.specs.Functions.{AreExpansions}
use Rattle.expansion.specs.Terms.{Terms, cost}
use Rattle.fn_store.specs.Davio.{IsExpansion}
use Rattle.ae_base.specs.declared.form.Form.TheVariants.{Factored}
use Rattle.vec_text.specs.Says.{vec_says}
use Rattle.vec_text.specs.VectorFile.{VectorFile, vector_text}
use Rattle.synth_core.specs.declared.made.Summary.{Summary}
use Rattle.synth_core.specs.Headline.{IsWritten}
use Rattle.synth_core.specs.Made.{AreNumbers, names_of, ShowsAt, IsSynthesised, Texts}
use Rattle.synth_core.specs.Steps.{AreRewritten, AreTests, IsFactoredNet, factored_file}
use Rattle.synth_core.proofs.Filed.{points-vectors_of}
use Rattle.synth_core.proofs.Lines.{length-lines}
use Rattle.synth_core.proofs.Shown.{meets}

-- what holds place by place
zip_get : {A B : Type 0} (R : A → B → Type 0) (xs : List A) (ys : List B) (i : ℕ) (d : A) (e : B) → AllZip R xs ys → i < length xs → R (get_or xs i d) (get_or ys i e)
zip_get R [] ys i d e all l = absurd (omega (arith, l))
zip_get R (x ∷ xs) [] i d e all l = absurd all
zip_get R (x ∷ xs) (y ∷ ys) zero d e all l = all.0
zip_get R (x ∷ xs) (y ∷ ys) (suc i) d e all l = zip_get R xs ys i d e all.1 (omega (arith, l))

module _ (s : Source) (e : Terms) (are : AreExpansions s e.polarity e) (cubes : Cubes) (n : Network) (points : List Set) (unchanged : List Idle)
    (rewritten : AreRewritten e cubes) (net : IsFactoredNet (names_of s) cubes n) (tests : AreTests n e.polarity points unchanged)
    (meaning : (p : Signs) (f : Set → Bool) (ts : List Set) → IsExpansion p f ts → (x : Set) → IsPoint p.n x → value p ts x ≡ f x) where
  abbrev file : VectorFile
  file = factored_file (names_of s) e.polarity cubes n points unchanged

  -- the cubes of an output have the value that is specified On
  cubes_value : (x : Set) → IsPoint (length s.inputs) x → (o : ℕ) → o < length s.outputs → esop_value (get_or cubes.outs o []) x ≡ on_set s o x
  cubes_value x point o within =
      let short : o < length e.outs = omega (arith, within, are.outputs) in
      zip_get (HasValueOf e.polarity) e.outs cubes.outs o [] [] rewritten.values short x
      ∙ meaning e.polarity (on_set s o) (get_or e.outs o []) (are.each o (get_or e.outs o []) (slice_get-get_or e.outs o [] short)) x (rw are.inputs point)

  low_is : (x : Set) → IsPoint (length s.inputs) x → (o : ℕ) → o < length s.outputs → has (net.values x).0 o ≡ on_set s o x
  low_is x point o within =
      (net.values x).2 o (get_or cubes.outs o []) (slice_get-get_or cubes.outs o [] (omega (arith, within, net.fits.outputs)))
      ∙ cubes_value x point o within

  low : (x : Set) → IsPoint (length s.inputs) x → ShowsAt n x (length s.outputs) (λ o. on_set s o x)
  low x point = ((net.values x).0, (net.values x).1, λ o within. low_is x point o within)

  values : (x : Set) → IsPoint (length s.inputs) x → (ys : Set) × Shows n None x ys × AreSpecified s x ys
  values x point = ((net.values x).0, (net.values x).1, λ o within. meets (s.specified o x) (has (net.values x).0 o) (low_is x point o within))

  module _ (again : blif_says Written (blif_text n) ≡ Ok n) (said : vec_says (vector_text file) ≡ Ok file)
      (shows : (n : Network) (fault : Option Fault) (x : Set) → IsValid n → Shows n fault x (out n fault x)) where
    abbrev is_written : IsWritten (blif_text n) (vector_text file)
    is_written = record {
      net = n;
      reads_back = again;
      valid = net.valid;
      file = file;
      says = said;
      inputs = refl;
      outputs = sym net.names_are.ports;
      responses = All-map (λ v. Shows n None v.point v.outs) _ points (λ i d l. shows n None (get_or points i d) net.valid);
    }

    points_are : map (λ v. v.point) file.vectors ≡ points
    points_are = points-vectors_of n points

    pub is_factored : ((names : Names) → IsLead names (lead names)) → (summary : Summary) → AreNumbers s e n file summary
        → IsSynthesised Factored e.polarity s e (record { net_text = blif_text n; vec_text = vector_text file; summary = summary })
    is_factored is_lead summary numbers = record {
      headline = record {
        written = is_written;
        has_form = refl;
        is_net = (record { ports = net.names_are.ports; inputs = inl net.names_are.inputs; values = values }, net.names_are.inputs);
        tested = subst (IsComplete n) (sym points_are) tests.complete;
      };
      polarity = refl;
      model = net.names_are.model;
      low = low;
      net_text = refl;
      vec_text = refl;
      of_form = (
        record { cubes = cubes; rewritten = rewritten.are; settled = rewritten.settled; values = rewritten.values; lines = refl; few = omega (arith, length-lines 0 cubes.outs, rewritten.few) },
        record { underscores = lead (names_of s); is_lead = is_lead (names_of s); sums = net.form.sums; are_sums = net.form.are_sums; factored = net.form.is; few_exors = net.few_exors },
        record { points = points_are ∙ tests.points_are; undetectable = tests.undetectable },
      );
      numbers = numbers;
    }

-- texts of the file and the network, with names and a polarity that are those of the source and of the expansions
pub made_factored : (names : Names) (s : Source) (e : Terms) (cubes : Cubes) (n : Network) (points : List Set) (unchanged : List Idle) (p : Signs) (file : VectorFile) (summary : Summary) (made : Texts)
    → p ≡ e.polarity → names ≡ names_of s → file ≡ factored_file names p cubes n points unchanged → made ≡ record { net_text = blif_text n; vec_text = vector_text file; summary = summary }
    → AreNumbers s e n file summary
    → (AreNumbers s e n (factored_file (names_of s) e.polarity cubes n points unchanged) summary
    → IsSynthesised Factored e.polarity s e (record { net_text = blif_text n; vec_text = vector_text (factored_file (names_of s) e.polarity cubes n points unchanged); summary = summary }))
    → IsSynthesised Factored e.polarity s e made
made_factored names s e cubes n points unchanged p file summary made signs named is texts numbers law =
    let same : file ≡ factored_file (names_of s) e.polarity cubes n points unchanged = is ∙ ap₂ (λ m q. factored_file m q cubes n points unchanged) named signs in
    subst (IsSynthesised Factored e.polarity s e) (sym (texts ∙ ap (λ f. record { net_text = blif_text n; vec_text = vector_text f; summary = summary }) same))
    (law (subst (λ f. AreNumbers s e n f summary) same numbers))
