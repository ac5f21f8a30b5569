-- What is made of the bytes of a source is one: the same texts, and the same numbers.
use Rattle.std.proofs.Common.{◌≡◌, arith, ℕ, Bool, List, [], ◌∷◌, length, map, refl, sym, ap, ap₂, ◌∙◌, subst}
use Rattle.std.specs.Prelude.{None, Ok, Option}
use Rattle.std.proofs.lemmas.List.Elements.{recursion_from_All}
use Rattle.std.specs.List.{AllByRecursion}
use Rattle.ae_base.specs.Mask.{Set}
use Rattle.ae_base.specs.Cube.{Signs}
use Rattle.ae_base.specs.Source.{Source}
use Rattle.ae_net.specs.declared.net.Fault.{Fault}
use Rattle.ae_net.specs.Blif.{blif_text}
use Rattle.ae_net.specs.Implements.{port_names}
use Rattle.ae_net.specs.Faults.{fault_list}
use Rattle.ae_net.specs.Lead.{lead}
use Rattle.ae_net.specs.Names.{Names, IsLead}
use Rattle.ae_net.specs.Network.{Network}
use Rattle.ae_net.specs.Out.{out}
use Rattle.ae_net.specs.Run.{Shows}
use Rattle.ae_net.specs.Valid.{IsValid}
use Rattle.cascade.specs.Reddy.{reddy_over}
use Rattle.fn_store.specs.Davio.{IsExpansion}
use Rattle.expansion.specs.Terms.{Terms}
use Rattle.esop.specs.Esop.{Cubes}
use Rattle.expansion.specs.Functions.{AreExpansions}
use Rattle.factor.specs.Factored.{HasFactoredForm, network_of, wires}
use Rattle.polarity.specs.Search.{Advised, IsChosen}
use Rattle.synth_core.specs.Asked.{terms_limit}
use Rattle.synth_core.specs.Searched.{IsPolarity}
use Rattle.redundancy.specs.Evidence.{IsEvidenceTree, Tree, leaf_count, written}
use Rattle.std.specs.List.{AllZip}
use Rattle.named_faults.specs.Lines.{AreUndetectable, IsLineOf, IsShown}
use Rattle.test_gen.specs.Selection.{IsSelection}
use Rattle.test_gen.specs.Selection.IsSelection.{none, taken, left}
use Rattle.test_gen.specs.Tests.{tests_of}
use Rattle.test_gen.specs.Undetectable.{IsUndetectable}
use Rattle.vec_text.specs.declared.file.PlaceName.{PlaceName}
use Rattle.vec_text.specs.declared.file.Shown.{Shown}
use Rattle.vec_text.specs.declared.file.Shown.TheVariants as shown
use Rattle.synth_core.specs.Made.{IsFactored, IsMade, IsOfForm, IsSynthesised, Texts, lines_from, names_of}
use Rattle.synth_core.specs.declared.made.Summary.{Summary}
use Rattle.synth_core.specs.declared.settings.Choice.{Choice}
use Rattle.synth_core.specs.declared.settings.Choice.TheVariants.{Positive, Search, Given}
use Rattle.synth_core.specs.declared.settings.Settings.{Settings}
use Rattle.synth_core.proofs.Limits.{one_source, one_terms, same}
use Rattle.ae_base.specs.Form.{features_of}
use Rattle.ae_base.specs.declared.form.Form.{Form}
use Rattle.vec_text.specs.declared.file.EsopLine.{EsopLine}
use Rattle.ae_base.specs.declared.form.Form.TheVariants.{Reddy, Factored}
use Rattle.vec_text.specs.declared.file.Idle.{Idle}
use Rattle.vec_text.specs.declared.file.Vector.{Vector}
use Rattle.vec_text.specs.Says.{vec_says}
use Rattle.vec_text.specs.VectorFile.{VectorFile, IsValidVectorFile, vector_text}

same_head : {X : Type 0} {x : X} {ys zs : List X} → ys ≡ zs → x ∷ ys ≡ x ∷ zs
same_head {x = x} e = ap (λ l. x ∷ l) e

-- exactly those of which something holds are one list
selected_once : {X : Type 0} (P : X → Type 0) (xs ys zs : List X) → IsSelection P xs ys → IsSelection P xs zs → ys ≡ zs
selected_once P xs ys zs none none = refl
selected_once P xs ys zs (taken holds rest) (taken also more) = same_head (selected_once P _ _ _ rest more)
selected_once P xs ys zs (taken holds rest) (left other more) = absurd (other holds)
selected_once P xs ys zs (left other rest) (taken holds more) = absurd (other holds)
selected_once P xs ys zs (left other rest) (left also more) = selected_once P _ _ _ rest more

-- records with the same fields
same_file : (f g : Form) (i j o q : List (List ℕ)) (p r : Signs) (c d : List EsopLine) (v w : List Vector) (u t : List Idle) → f ≡ g → i ≡ j → o ≡ q → p ≡ r → c ≡ d → v ≡ w → u ≡ t
    → same {X = VectorFile} (record { form = f; inputs = i; outputs = o; polarity = p; esop = c; vectors = v; unchanged = u }) (record { form = g; inputs = j; outputs = q; polarity = r; esop = d; vectors = w; unchanged = t })
same_file f g i j o q p r c d v w u t a b h k l m n = rw (a, b, h, k, l, m, n) refl

same_texts : (n m v w : List ℕ) (x y : Summary) → n ≡ m → v ≡ w → x ≡ y → same {X = Texts} (record { net_text = n; vec_text = v; summary = x }) (record { net_text = m; vec_text = w; summary = y })
same_texts n m v w x y a b c = rw (a, b, c) refl

same_summary : (f g : Form) (i j o q : ℕ) (p r : Signs) (t t' c c' n n' l l' v v' u u' : ℕ) → f ≡ g → i ≡ j → o ≡ q → p ≡ r → t ≡ t' → c ≡ c' → n ≡ n' → l ≡ l' → v ≡ v' → u ≡ u'
    → same {X = Summary} (record { form = f; inputs = i; outputs = o; polarity = p; terms = t; cubes = c; gates = n; faults = l; vectors = v; unchanged = u })
    (record { form = g; inputs = j; outputs = q; polarity = r; terms = t'; cubes = c'; gates = n'; faults = l'; vectors = v'; unchanged = u' })
same_summary f g i j o q p r t t' c c' n n' l l' v v' u u' a b d e h k m s x y = rw (a, b, d, e, h, k, m, s, x, y) refl

-- the cubes and the faults of a file in Reddy form
reddy_lists : (file : VectorFile) → IsValidVectorFile file → file.form ≡ Reddy → (file.esop ≡ []) × (file.unchanged ≡ [])
reddy_lists file valid form = (valid.no_cubes (ap (λ f. (features_of f).cubes) form), valid.none_listed (ap (λ f. (features_of f).undetectable) form))

module _ (only : (n : Network) (fault : Option Fault) (x ys : Set) → IsValid n → Shows n fault x ys → ys ≡ out n fault x) (lead_only : (names : Names) (k : ℕ) → IsLead names k → k ≡ lead names) where
  -- vectors of the same points with responses of one network are the same
  one_vectors : (n : Network) → IsValid n → (xs ys : List Vector) → map (λ v. v.point) xs ≡ map (λ v. v.point) ys
      → AllByRecursion (λ (v : Vector). Shows n None v.point v.outs) xs → AllByRecursion (λ (v : Vector). Shows n None v.point v.outs) ys → xs ≡ ys
  one_vectors n valid [] [] e p q = refl
  one_vectors n valid [] (y ∷ ys) e p q = absurd (cc e)
  one_vectors n valid (x ∷ xs) [] e p q = absurd (cc e)
  one_vectors n valid (x ∷ xs) (y ∷ ys) e p q =
      let tails : xs ≡ ys = one_vectors n valid xs ys (cc e) p.1 q.1 in
      let points : x.point ≡ y.point = cc e in
      let outs : x.outs ≡ y.outs = only n None x.point x.outs valid p.0 ∙ ap (λ z. out n None z) points ∙ sym (only n None y.point y.outs valid q.0) in
      let heads : x ≡ y = ap₂ (λ a b. record { point = a; outs = b }) points outs in
      ap₂ (λ z zs. z ∷ zs) heads tails

  -- the undetectable faults of a network are told by the same lines
  module _ (trees_once : (n : Network) (fault : Fault) (t u : Tree) → IsEvidenceTree n fault t → IsEvidenceTree n fault u → t ≡ u) where
    one_shown : (n : Network) (fault : Fault) (s t : Shown) → IsShown n fault s → IsShown n fault t → s ≡ t
    one_shown n fault (shown.Tree xs) (shown.Tree ys) a b =
        ap (λ z. shown.Tree z) (a.2 ∙ ap written (trees_once n fault a.0 b.0 a.1 b.1) ∙ sym b.2)
    one_shown n fault (shown.Tree xs) shown.Wide a b = absurd (omega (arith, a.3, b.2, ap leaf_count (trees_once n fault a.0 b.0 a.1 b.1)))
    one_shown n fault shown.Wide (shown.Tree ys) a b = absurd (omega (arith, a.2, b.3, ap leaf_count (trees_once n fault a.0 b.0 a.1 b.1)))
    one_shown n fault shown.Wide shown.Wide a b = refl

    same_idle : (p q : PlaceName) (v w : Bool) (s t : Shown) → p ≡ q → v ≡ w → s ≡ t → same {X = Idle} (record { place = p; value = v; shown = s }) (record { place = q; value = w; shown = t })
    same_idle p q v w s t a b c = rw (a, b, c) refl

    one_line : (n : Network) (fault : Fault) (x y : Idle) → IsLineOf n fault x → IsLineOf n fault y → x ≡ y
    one_line n fault x y a b = same_idle x.place y.place x.value y.value x.shown y.shown (a.place ∙ sym b.place) (a.value ∙ sym b.value) (one_shown n fault x.shown y.shown a.is_shown b.is_shown)

    one_lines : (n : Network) (faults : List Fault) (xs ys : List Idle) → AllZip (IsLineOf n) faults xs → AllZip (IsLineOf n) faults ys → xs ≡ ys
    one_lines n [] [] [] a b = refl
    one_lines n [] [] (y ∷ ys) a b = absurd b
    one_lines n [] (x ∷ xs) ys a b = absurd a
    one_lines n (f ∷ fs) [] ys a b = absurd a
    one_lines n (f ∷ fs) (x ∷ xs) [] a b = absurd b
    one_lines n (f ∷ fs) (x ∷ xs) (y ∷ ys) a b = ap₂ (λ z zs. z ∷ zs) (one_line n f x y a.0 b.0) (one_lines n fs xs ys a.1 b.1)

    same_lines : (n : Network) (xs ys : List Idle) → AreUndetectable n xs → AreUndetectable n ys → xs ≡ ys
    same_lines n xs ys a b =
        one_lines n b.faults xs ys (subst (λ fs. AllZip (IsLineOf n) fs xs) (selected_once (IsUndetectable n) (fault_list n) a.faults b.faults a.exactly b.exactly) a.listed) b.listed

  module _ (file_valid : (text : List ℕ) (file : VectorFile) → vec_says text ≡ Ok file → IsValidVectorFile file)
      (trees_once : (n : Network) (fault : Fault) (t u : Tree) → IsEvidenceTree n fault t → IsEvidenceTree n fault u → t ≡ u)
      (net_once : (names : Names) (e : Cubes) (n m : Network) → HasFactoredForm names e n → HasFactoredForm names e m → n ≡ m) where
    -- the network has factored form, for the one number of underscores
    form_of : (s : Source) (cubes : Cubes) (n : Network) → IsFactored s cubes n → HasFactoredForm (names_of s) cubes n
    form_of s cubes n is = record {
      sums = is.sums;
      are_sums = is.are_sums;
      is = is.factored ∙ ap (λ k. network_of k (names_of s) (wires cubes) is.sums) (lead_only (names_of s) is.underscores is.is_lead);
    }

    -- what two networks and files of a form have in common
    record Agrees (n m : Network) (f g : VectorFile) : Type 0 where
      nets : n ≡ m
      esop : f.esop ≡ g.esop
      points : map (λ v. v.point) f.vectors ≡ map (λ v. v.point) g.vectors
      unchanged : f.unchanged ≡ g.unchanged

    agree : (form : Form) (s : Source) (e : Terms) (n m : Network) (f g : VectorFile) → IsValidVectorFile f → IsValidVectorFile g → f.form ≡ form → g.form ≡ form
        → IsOfForm form s e n f → IsOfForm form s e m g → Agrees n m f g
    agree Reddy s e n m f g fv gv ff gf a b =
        let same : a.underscores ≡ b.underscores = lead_only (names_of s) a.underscores a.is_lead ∙ sym (lead_only (names_of s) b.underscores b.is_lead) in
        let fs = reddy_lists f fv ff in
        let gs = reddy_lists g gv gf in
        record {
          nets = a.cascade ∙ ap (λ k. reddy_over k (names_of s) e) same ∙ sym b.cascade;
          esop = fs.0 ∙ sym gs.0;
          points = a.points ∙ sym b.points;
          unchanged = fs.1 ∙ sym gs.1;
        }
    agree Factored s e n m f g fv gv ff gf a b =
        let cubes : a.0.cubes ≡ b.0.cubes = a.0.rewritten ∙ sym b.0.rewritten in
        let nets : n ≡ m = net_once (names_of s) b.0.cubes n m (subst (λ c. HasFactoredForm (names_of s) c n) cubes (form_of s a.0.cubes n a.1)) (form_of s b.0.cubes m b.1) in
        record {
          nets = nets;
          esop = a.0.lines ∙ ap (λ c. lines_from 0 c.outs) cubes ∙ sym b.0.lines;
          points = a.2.points ∙ ap (λ k. tests_of k e.polarity) nets ∙ sym b.2.points;
          unchanged = same_lines trees_once m f.unchanged g.unchanged (subst (λ k. AreUndetectable k f.unchanged) nets a.2.undetectable) b.2.undetectable;
        }

    module _ (form : Form) (s : Source) (p : Signs) (e : Terms) (ta tb : Texts) (a : IsSynthesised form p s e ta) (b : IsSynthesised form p s e tb) where
      abbrev fa : VectorFile
      fa = a.headline.written.file

      abbrev fb : VectorFile
      fb = b.headline.written.file

      both : Agrees a.headline.written.net b.headline.written.net fa fb
      both =
          agree form s e a.headline.written.net b.headline.written.net fa fb (file_valid ta.vec_text fa a.headline.written.says) (file_valid tb.vec_text fb b.headline.written.says)
          a.headline.has_form b.headline.has_form a.of_form b.of_form

      vectors : fa.vectors ≡ fb.vectors
      vectors =
          one_vectors b.headline.written.net b.headline.written.valid fa.vectors fb.vectors both.points
          (subst (λ n. AllByRecursion (λ (v : Vector). Shows n None v.point v.outs) fa.vectors) both.nets (recursion_from_All _ fa.vectors a.headline.written.responses))
          (recursion_from_All _ fb.vectors b.headline.written.responses)

      files : fa ≡ fb
      files =
          same_file fa.form fb.form fa.inputs fb.inputs fa.outputs fb.outputs fa.polarity fb.polarity fa.esop fb.esop fa.vectors fb.vectors fa.unchanged fb.unchanged
          (a.headline.has_form ∙ sym b.headline.has_form)
          (a.headline.written.inputs ∙ ap (λ n. n.inputs) both.nets ∙ sym b.headline.written.inputs)
          (a.headline.written.outputs ∙ ap port_names both.nets ∙ sym b.headline.written.outputs)
          (a.polarity ∙ sym b.polarity) both.esop vectors both.unchanged

      one_net : ta.net_text ≡ tb.net_text
      one_net = a.net_text ∙ ap blif_text both.nets ∙ sym b.net_text

      one_vec : ta.vec_text ≡ tb.vec_text
      one_vec = a.vec_text ∙ ap vector_text files ∙ sym b.vec_text

      one_summary : ta.summary ≡ tb.summary
      one_summary =
          let m = a.numbers in
          let k = b.numbers in
          let x = ta.summary in
          let y = tb.summary in
          same_summary x.form y.form x.inputs y.inputs x.outputs y.outputs x.polarity y.polarity x.terms y.terms x.cubes y.cubes x.gates y.gates x.faults y.faults x.vectors y.vectors x.unchanged y.unchanged
          (m.form ∙ ap (λ f. f.form) files ∙ sym k.form) (m.inputs ∙ sym k.inputs) (m.outputs ∙ sym k.outputs) (m.polarity ∙ ap (λ f. f.polarity) files ∙ sym k.polarity)
          (m.terms ∙ sym k.terms) (m.cubes ∙ ap (λ f. length f.esop) files ∙ sym k.cubes) (m.gates ∙ ap (λ n. length n.gates) both.nets ∙ sym k.gates)
          (m.faults ∙ ap (λ n. length (fault_list n)) both.nets ∙ sym k.faults) (m.vectors ∙ ap (λ f. length f.vectors) files ∙ sym k.vectors)
          (m.unchanged ∙ ap (λ f. length f.unchanged) files ∙ sym k.unchanged)

      pub one_texts : ta ≡ tb
      one_texts = same_texts ta.net_text tb.net_text ta.vec_text tb.vec_text ta.summary tb.summary one_net one_vec one_summary

    -- so what is made of bytes is one
    module _ (one : (p : Signs) (f : Set → Bool) (ts us : List Set) → IsExpansion p f ts → IsExpansion p f us → ts ≡ us)
        (chosen : (s : Source) (start p q : Signs) (before after : List Advised) → IsChosen s start before after p → IsChosen s start before after q → p ≡ q) where
      one_polarity : (choice : Choice) (limit : ℕ) (s : Source) (before after : List Advised) (p q : Signs)
          → IsPolarity choice limit s before after p → IsPolarity choice limit s before after q → p ≡ q
      one_polarity Positive limit s before after p q a b = a ∙ sym b
      one_polarity Search limit s before after p q a b = chosen s _ p q before after a.chosen b.chosen
      one_polarity (Given r) limit s before after p q a b = a ∙ sym b

      pub one_made : (settings : Settings) (bytes : List ℕ) (before after : List Advised) (ta tb : Texts) → IsMade settings bytes before after ta → IsMade settings bytes before after tb → ta ≡ tb
      one_made settings bytes before after ta tb a b =
          let s : Source = b.within.source in
          let sources : a.within.source ≡ s = one_source one settings bytes a.within.source s a.within.expansions b.within.expansions a.within.expanded b.within.expanded in
          let limit : ℕ = terms_limit settings.form in
          let polarities : a.polarity ≡ b.polarity = one_polarity settings.polarity limit s before after a.polarity b.polarity (subst (λ r. IsPolarity settings.polarity limit r before after a.polarity) sources a.is_polarity) b.is_polarity in
          let are : AreExpansions s b.polarity a.expansions = subst (λ p. AreExpansions s p a.expansions) polarities (subst (λ r. AreExpansions r a.polarity a.expansions) sources a.are_expansions) in
          let terms : a.expansions ≡ b.expansions = one_terms one s b.polarity a.expansions b.expansions are b.are_expansions in
          let of_source : IsSynthesised settings.form a.polarity s a.expansions ta = subst (λ r. IsSynthesised settings.form a.polarity r a.expansions ta) sources a.is_synthesised in
          let at_polarity : IsSynthesised settings.form b.polarity s a.expansions ta = subst (λ p. IsSynthesised settings.form p s a.expansions ta) polarities of_source in
          one_texts settings.form s b.polarity b.expansions ta tb (subst (λ e. IsSynthesised settings.form b.polarity s e ta) terms at_polarity) b.is_synthesised
