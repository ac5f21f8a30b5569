-- What is synthesised of a source's expansions.
use Rattle.std.proofs.Common.{◌≡◌, ◌<◌, ◌≤◌, ℕ, Bool, true, not, inr, List, [], length, get_or, refl, sym, ap, ap₂, ◌∙◌, subst, arith}
use Rattle.std.specs.Prelude.{All, Option, Some, None, Ok, slice_get}
use Rattle.std.proofs.lemmas.List.Elements.{recursion_from_All, All-map}
use Rattle.std.proofs.lemmas.Option.{slice_get-get_or}
use Rattle.ae_base.specs.Mask.{Set, has, first, inside, with}
use Rattle.ae_base.specs.Cube.{Signs}
use Rattle.ae_base.specs.Terms.{IsPoint, value}
use Rattle.ae_base.specs.Source.{Source, on_set}
use Rattle.ae_net.specs.Network.{Network}
use Rattle.ae_net.specs.Valid.{IsValid}
use Rattle.ae_net.specs.Detects.{DetectsEveryFault}
use Rattle.ae_net.specs.Lead.{lead}
use Rattle.ae_net.specs.Out.{out}
use Rattle.ae_net.specs.Run.{Shows}
use Rattle.ae_net.specs.declared.net.Fault.{Fault}
use Rattle.ae_net.specs.Implements.{AreSpecified}
use Rattle.ae_net.specs.Names.{Names, IsLead}
use Rattle.ae_net.specs.Blif.{blif_text}
use Rattle.blif_read.specs.declared.fault.NetLimits.TheVariants.{Written}
use Rattle.blif_read.specs.Says.{blif_says}
use Rattle.expansion.specs.Even.{AreEven, even_inputs}
use Rattle.expansion.specs.Functions.{AreExpansions}
use Rattle.expansion.specs.Terms.{Terms}
use Rattle.fn_store.specs.Davio.{IsExpansion}
use Rattle.cascade.specs.Shows.{ShowsFunctions, ShowsComplements, HasInputNames, HasPortNames, reddy_net}
use Rattle.input_tests.specs.Complete.{DetectsAll}
use Rattle.input_tests.specs.Whole.{cascade_tests, vector_bound}
use Rattle.ae_base.specs.declared.form.Form.TheVariants.{Reddy}
use Rattle.vec_text.specs.Says.{vec_says}
use Rattle.vec_text.specs.VectorFile.{VectorFile, vector_text}
use Rattle.synth_core.specs.declared.made.Summary.{Summary}
use Rattle.synth_core.specs.Headline.{IsWritten, IsReddyTested}
use Rattle.synth_core.specs.Made.{AreNumbers, names_of, ShowsAt, IsSynthesised, Texts}
use Rattle.synth_core.specs.Steps.{reddy_file}
use Rattle.synth_core.proofs.Filed.{points-vectors_of, length-vectors_of}
use Rattle.synth_core.proofs.Meaning.{value-with, control_low, control_high}
use Rattle.synth_core.proofs.Shown.{meets}

-- ---- vectors

-- vectors that differ in outputs detect, as runs tell it
pub detects_every : (n : Network) (xs : List Set) → IsValid n → ((n : Network) (fault : Option Fault) (x : Set) → IsValid n → Shows n fault x (out n fault x)) → DetectsAll n xs → DetectsEveryFault n xs
detects_every n xs valid shows all fault place =
    let d = all fault place in
    (d.0, d.1, record { good = out n None d.0; shows_good = shows n None d.0 valid; faulty = out n (Some fault) d.0; shows_faulty = shows n (Some fault) d.0 valid; differ = d.2 })

-- ---- what the network shows

module _ (s : Source) (e : Terms) (are : AreExpansions s e.polarity e) where
  abbrev k : ℕ
  k = length s.inputs

  abbrev net : Network
  net = reddy_net (names_of s) e

  abbrev points : List Set
  points = cascade_tests e

  abbrev file : VectorFile
  file = reddy_file (names_of s) e

  module _ (valid : IsValid net) (inputs : HasInputNames net s.inputs) (ports : HasPortNames net s.outputs)
      (functions : ShowsFunctions net e) (complements : ShowsComplements net e)
      (shows : (n : Network) (fault : Option Fault) (x : Set) → IsValid n → Shows n fault x (out n fault x))
      (inside_law : (p : Signs) (f : Set → Bool) (ts : List Set) → IsExpansion p f ts → All (λ t. inside t (first p.n) ≡ true) ts)
      (meaning : (p : Signs) (f : Set → Bool) (ts : List Set) → IsExpansion p f ts → (x : Set) → IsPoint p.n x → value p ts x ≡ f x) where
    module _ (x : Set) (point : IsPoint k x) (o : ℕ) (within : o < length s.outputs) where
      ts : List Set
      ts = get_or e.outs o []

      there : slice_get e.outs o ≡ Some ts
      unfolding ts
      there = slice_get-get_or e.outs o [] (omega (arith, within, are.outputs))

      value_is : value e.polarity ts x ≡ on_set s o x
      value_is = meaning e.polarity (on_set s o) ts (are.each o ts there) x (rw are.inputs point)

      low_is : has (out net None x) o ≡ on_set s o x
      low_is = functions x (rw are.inputs (control_low k x point)) o ts there ∙ value_is

      with_control : value e.polarity ts (with x k) ≡ value e.polarity ts x
      with_control = subst (λ n. value e.polarity ts (with x n) ≡ value e.polarity ts x) are.inputs (value-with e.polarity ts x (recursion_from_All _ ts (inside_law e.polarity (on_set s o) ts (are.each o ts there))))

      high_is : has (out net None (with x k)) o ≡ not (on_set s o x)
      high_is = complements (with x k) (rw are.inputs (control_high k x)) o ts there ∙ ap not (with_control ∙ value_is)

    low : (x : Set) → IsPoint k x → ShowsAt net x (length s.outputs) (λ o. on_set s o x)
    low x point = (out net None x, shows net None x valid, λ o within. low_is x point o within)

    high : (x : Set) → IsPoint k x → ShowsAt net (with x k) (length s.outputs) (λ o. not (on_set s o x))
    high x point = (out net None (with x k), shows net None (with x k) valid, λ o within. high_is x point o within)

    values : (x : Set) → IsPoint k x → (ys : Set) × Shows net None x ys × AreSpecified s x ys
    values x point = (out net None x, shows net None x valid, λ o within. meets (s.specified o x) (has (out net None x) o) (low_is x point o within))

    module _ (again : blif_says Written (blif_text net) ≡ Ok net) (said : vec_says (vector_text file) ≡ Ok file) where
      abbrev is_written : IsWritten (blif_text net) (vector_text file)
      is_written = record {
        net = net;
        reads_back = again;
        valid = valid;
        file = file;
        says = said;
        inputs = refl;
        outputs = sym ports;
        responses = All-map (λ v. Shows net None v.point v.outs) _ points (λ i d l. shows net None (get_or points i d) valid);
      }

      module _ (complete : DetectsAll net points) (few : length points ≤ vector_bound e.polarity.n (even_inputs e)) (evens : AreEven s e.polarity (even_inputs e)) where
        is_tested : IsReddyTested s net file
        is_tested = record {
          evens = even_inputs e;
          are_even = evens;
          few = omega (arith, few, length-vectors_of net points, are.inputs);
          detected = detects_every net _ valid shows (subst (DetectsAll net) (sym (points-vectors_of net points)) complete);
        }

        pub is_synthesised : ((names : Names) → IsLead names (lead names)) → (summary : Summary) → AreNumbers s e net file summary
            → IsSynthesised Reddy e.polarity s e (record { net_text = blif_text net; vec_text = vector_text file; summary = summary })
        unfolding reddy_net
        is_synthesised is_lead summary numbers = record {
          headline = record { written = is_written; has_form = refl; is_net = record { ports = ports; inputs = inr inputs; values = values }; tested = is_tested };
          polarity = refl;
          model = refl;
          low = low;
          net_text = refl;
          vec_text = refl;
          of_form = record {
            underscores = lead (names_of s);
            is_lead = is_lead (names_of s);
            cascade = refl;
            high = high;
            points = points-vectors_of net points;
          };
          numbers = numbers;
        }

-- texts that are those of this network and this file
pub from_parts : (p : Signs) (s : Source) (e : Terms) (n m : Network) (f g : VectorFile) (x : Summary) (made : Texts)
    → made ≡ record { net_text = blif_text n; vec_text = vector_text f; summary = x } → n ≡ m → f ≡ g
    → IsSynthesised Reddy p s e (record { net_text = blif_text m; vec_text = vector_text g; summary = x }) → IsSynthesised Reddy p s e made
from_parts p s e n m f g x made is a b law = subst (IsSynthesised Reddy p s e) (sym (is ∙ ap₂ (λ k h. record { net_text = blif_text k; vec_text = vector_text h; summary = x }) a b)) law
