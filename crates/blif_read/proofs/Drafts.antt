-- Drafting line by line.
use Rattle.std.proofs.Common.{◌≡◌, ℕ, zero, suc, ◌+◌, ◌<◌, ◌≤◌, Bool, true, false, not, cond, ◌&&◌, List, [], ◌∷◌, ◌++◌, length, get_or, drop, map, codes, Option, Some, None, Err, refl, sym, ap, ap₂, ◌∙◌, arith}
use Rattle.std.specs.Prelude.{option_map}
use Rattle.std.specs.List.{find, AllByRecursion}
use Rattle.std.specs.Option.{option_or}
use Rattle.std.proofs.lemmas.List.{append-nil, append_assoc, get_or_read, drop_more, drop_all}
use Rattle.ae_base.specs.Twins.{is_among}
use Rattle.ae_lex.specs.Heads.{Word, heads}
use Rattle.ae_lex.specs.Words.{WordLine}
use Rattle.ae_lex.specs.Reads.{words_of}
use Rattle.ae_net.specs.Named.{NamedGate, place_of}
use Rattle.ae_lex.specs.declared.errors.TextErr.{TextErr}
use Rattle.ae_lex.specs.declared.errors.TextErr.TheVariants as errors
use Rattle.blif_read.specs.declared.fault.BlifFault.{BlifFault}
use Rattle.blif_read.specs.declared.fault.BlifFault.TheVariants as fault
use Rattle.blif_read.specs.declared.draft.Draft.{Draft}
use Rattle.blif_read.specs.Says.{gate_of, gates_of, where_any, unplaced}
use Rattle.blif_read.specs.Seen.{Tells}
use Rattle.blif_read.specs.Words.{gate_name, pin_names}
use Rattle.blif_read.specs.Build.{rows_of, drafted, drafts_of, front, front_number, draft_at, built, built_at}

-- ---- the first line that passes a test

pub rest_more : (all : List WordLine) (k : ℕ) (line : WordLine) → k < length all → get_or all k line ≡ line → drop k all ≡ line ∷ drop (k + 1) all
rest_more all k line lt e = drop_more all k line lt ∙ ap (λ (l : WordLine). l ∷ drop (k + 1) all) e

-- of the first line, or of the others
where_cons : (h : Word) (t : List Word → Bool) (f : BlifFault) (line : WordLine) (lines : List WordLine) → where_any h t f (line ∷ lines) ≡ option_or (where_any h t f (line ∷ [])) (where_any h t f lines)
where_cons h t f line lines = pick (heads h line.words && t (drop 1 line.words))
  where
    at : Option WordLine → Option (ℕ × BlifFault)
    at o = option_map (λ l. (l.number, f)) o

    pick : (b : Bool) → at (cond b (Some line) (find (λ l. heads h l.words && t (drop 1 l.words)) lines)) ≡ option_or (at (cond b (Some line) None)) (where_any h t f lines)
    pick true = refl
    pick false = refl

pub where_more : (h : Word) (t : List Word → Bool) (f : BlifFault) (all : List WordLine) (k : ℕ) (line : WordLine) → k < length all → get_or all k line ≡ line → where_any h t f (line ∷ []) ≡ None
    → where_any h t f (drop k all) ≡ where_any h t f all → where_any h t f (drop (k + 1) all) ≡ where_any h t f all
where_more h t f all k line lt e none is =
    ap (λ (o : Option (ℕ × BlifFault)). option_or o (where_any h t f (drop (k + 1) all))) (sym none) ∙ sym (where_cons h t f line (drop (k + 1) all)) ∙ ap (where_any h t f) (sym (rest_more all k line lt e)) ∙ is

pub where_err : (h : Word) (t : List Word → Bool) (f : BlifFault) (all : List WordLine) (k : ℕ) (line : WordLine) (e : TextErr BlifFault) → k < length all → get_or all k line ≡ line → where_any h t f (drop k all) ≡ where_any h t f all
    → Tells {X = Unit {0}} (where_any h t f (line ∷ [])) (Unit {0}) (Err e) → Tells {X = Unit {0}} (where_any h t f all) (Unit {0}) (Err e)
where_err h t f all k line (errors.At n g) lt e is found =
    sym is ∙ ap (where_any h t f) (rest_more all k line lt e) ∙ where_cons h t f line (drop (k + 1) all) ∙ ap (λ (o : Option (ℕ × BlifFault)). option_or o (where_any h t f (drop (k + 1) all))) found
where_err h t f all k line errors.Memory lt e is found = tt

pub where_end : (h : Word) (t : List Word → Bool) (f : BlifFault) (all : List WordLine) (k : ℕ) → length all ≤ k → where_any h t f (drop k all) ≡ where_any h t f all → where_any h t f all ≡ None
where_end h t f all k le is = sym is ∙ ap (where_any h t f) (drop_all k all le)

-- ---- drafts

pub drafts_more : (known : List Word) (all : List WordLine) (k : ℕ) (line : WordLine) (old new : List Draft) → k < length all → get_or all k line ≡ line → new ≡ old ++ drafted known k line.words
    → old ++ drafts_of known k (drop k all) ≡ drafts_of known 0 all → new ++ drafts_of known (k + 1) (drop (k + 1) all) ≡ drafts_of known 0 all
drafts_more known all k line old new lt e is so_far =
    let rest = drop (k + 1) all in
    let one : suc k ≡ k + 1 = omega arith in
    ap (λ (ds : List Draft). ds ++ drafts_of known (k + 1) rest) is ∙ append_assoc old (drafted known k line.words) (drafts_of known (k + 1) rest)
    ∙ ap (λ n. old ++ (drafted known k line.words ++ drafts_of known n rest)) (sym one) ∙ ap (λ (ls : List WordLine). old ++ drafts_of known k ls) (sym (rest_more all k line lt e)) ∙ so_far

pub drafts_end : (known : List Word) (all : List WordLine) (k : ℕ) (drafts : List Draft) → length all ≤ k → drafts ++ drafts_of known k (drop k all) ≡ drafts_of known 0 all → drafts ≡ drafts_of known 0 all
drafts_end known all k drafts le so_far = sym (append-nil drafts) ∙ ap (λ (ls : List WordLine). drafts ++ drafts_of known k ls) (sym (drop_all k all le)) ∙ so_far

-- ---- drafts and gates

-- the gate of a draft, and the number of its line
abbrev pub gate_by : List WordLine → Draft → NamedGate
gate_by all d = front (drop d.line all)

abbrev pub number_by : List WordLine → Draft → ℕ
number_by all d = front_number (drop d.line all)

-- what is drafted for a gate
abbrev pub pins_by : List Word → NamedGate → List ℕ
pins_by known g = map (λ w. place_of w known) g.pins

-- where the text is this line and then these, the drafts from it on are those of the gates from it on
drop_next : (all : List WordLine) (k : ℕ) (line : WordLine) (lines : List WordLine) → drop k all ≡ line ∷ lines → drop (suc k) all ≡ lines
drop_next [] zero line lines e = absurd cc
drop_next [] (suc k) line lines e = absurd cc
drop_next (l ∷ all) zero line lines e = (let same : all ≡ lines = cc in same)
drop_next (l ∷ all) (suc k) line lines e = drop_next all k line lines e

short_of : (all : List WordLine) (k : ℕ) (line : WordLine) (lines : List WordLine) → drop k all ≡ line ∷ lines → k < length all
short_of [] zero line lines e = absurd cc
short_of [] (suc k) line lines e = absurd cc
short_of (l ∷ all) zero line lines e = omega arith
short_of (l ∷ all) (suc k) line lines e = omega (arith, short_of all k line lines e)

-- the first draft whose gate isn't one of the names, by the number of its line
abbrev pub left_at : List WordLine → List Word → List Draft → Option (ℕ × BlifFault)
left_at all names drafts = option_map (λ d. (number_by all d, fault.Cycle)) (find (λ d. not (is_among (gate_by all d).out names)) drafts)

-- these drafts are those of gates of which the first that isn't among some names is told so
pub record AreOf (known : List Word) (all : List WordLine) (drafts : List Draft) (gates : List NamedGate) (left : List Word → Option (ℕ × BlifFault)) : Type 0 where
  pub gates_are : map (gate_by all) drafts ≡ gates
  pub pins_are : map (λ d. d.pins) drafts ≡ map (pins_by known) gates
  pub within : AllByRecursion (λ d. d.line < length all) drafts
  pub first : (names : List Word) → left names ≡ left_at all names drafts

of_rest : (known : List Word) (all rest : List WordLine) (k : ℕ) → drop k all ≡ rest → AreOf known all (drafts_of known k rest) (gates_of (words_of rest)) (λ names. unplaced names rest)
unfolding gates_of
of_rest known all [] k e = record { gates_are = refl; pins_are = refl; within = tt; first = λ names. refl }
of_rest known all (line ∷ lines) k e =
    pick (heads (codes ".names") line.words) (drafts_of known (suc k) lines) (of_rest known all lines (suc k) (drop_next all k line lines e))
  where
    args : List Word
    args = drop 1 line.words

    here : Draft
    here = record { line = k; pins = map (λ w. place_of w known) (pin_names args) }

    left : List Word → Bool → Option (ℕ × BlifFault)
    left names b = option_map (λ l. (l.number, fault.Cycle)) (cond b (Some line) (find (λ l. heads (codes ".names") l.words && not (is_among (gate_name (drop 1 l.words)) names)) lines))

    one : (names : List Word) (b : Bool) (rest : List Draft) → unplaced names lines ≡ left_at all names rest → left names b ≡ option_map (λ d. (number_by all d, fault.Cycle)) (cond b (Some here) (find (λ d. not (is_among (gate_by all d).out names)) rest))
    one names true rest h = ap (λ (ls : List WordLine). Some (front_number ls, fault.Cycle)) (sym e)
    one names false rest h = h

    pick : (b : Bool) (rest : List Draft) → AreOf known all rest (gates_of (words_of lines)) (λ names. unplaced names lines)
        → AreOf known all (cond b (here ∷ []) [] ++ rest) (cond b (gate_of args (rows_of lines) ∷ []) [] ++ gates_of (words_of lines)) (λ names. left names (b && not (is_among (gate_name args) names)))
    pick true rest h = record {
      gates_are = ap₂ (λ (c : NamedGate) (cs : List NamedGate). c ∷ cs) (ap front e) h.gates_are;
      pins_are = ap (λ (ps : List (List ℕ)). here.pins ∷ ps) h.pins_are;
      within = (short_of all k line lines e, h.within);
      first = λ names.
          one names (not (is_among (gate_name args) names)) rest (h.first names)
          ∙ ap (λ (ls : List WordLine). option_map (λ d. (number_by all d, fault.Cycle)) (cond (not (is_among (front ls).out names)) (Some here) (find (λ d. not (is_among (gate_by all d).out names)) rest))) (sym e);
    }
    pick false rest h = h

pub drafts_are : (known : List Word) (all : List WordLine) → AreOf known all (drafts_of known 0 all) (gates_of (words_of all)) (λ names. unplaced names all)
drafts_are known all = of_rest known all all 0 refl

-- ---- a draft's line and gate

pub line_number : (lines : List WordLine) (drafts : List Draft) (place : ℕ) (draft : Draft) (line : WordLine) → place < length drafts → draft ≡ get_or drafts place draft → line ≡ get_or lines draft.line line → draft.line < length lines
    → line.number ≡ number_by lines (draft_at drafts place)
line_number lines drafts place draft line lt is there in' =
    ap (λ (ls : List WordLine). front_number ls) (sym (rest_more lines draft.line line in' (sym there))) ∙ ap (number_by lines) (get_or_read drafts place draft lt is (record { line = 0; pins = [] }))

pub built_is : (lines after : List WordLine) (names : List (List ℕ)) (drafts : List Draft) (n : ℕ) (ranks : List (Option ℕ)) (place : ℕ) (draft : Draft) (name signals : List ℕ) (inputs : ℕ)
    → place < length drafts → draft ≡ get_or drafts place draft → after ≡ drop (draft.line + 1) lines → name ≡ get_or names place [] → signals ≡ draft.pins → inputs ≡ n
    → built (rows_of after) name signals inputs ranks ≡ built_at lines names drafts n ranks place
built_is lines after names drafts n ranks place draft name signals inputs lt is a e f g =
    let at : draft ≡ draft_at drafts place = get_or_read drafts place draft lt is (record { line = 0; pins = [] }) in
    ap (λ (ls : List WordLine). built (rows_of ls) name signals inputs ranks) a
    ∙ ap (λ (w : List ℕ). built (rows_of (drop (draft.line + 1) lines)) w signals inputs ranks) e
    ∙ ap (λ (ss : List ℕ). built (rows_of (drop (draft.line + 1) lines)) (get_or names place []) ss inputs ranks) f
    ∙ ap (λ m. built (rows_of (drop (draft.line + 1) lines)) (get_or names place []) draft.pins m ranks) g
    ∙ ap (λ (d : Draft). built (rows_of (drop (d.line + 1) lines)) (get_or names place []) d.pins n ranks) at
