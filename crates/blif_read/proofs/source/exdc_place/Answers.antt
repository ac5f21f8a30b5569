use Rattle.std.proofs.Common.{◌≡◌, ◌<◌, ℕ, List, [], Bool, true, false, ltb, arith, refl, Some, None, codes, length, map, get_or, cond, sym, ap, ◌∙◌}
use Rattle.std.specs.Prelude.{position}
use Rattle.std.specs.List.{position_or_len}
use Rattle.std.proofs.lemmas.Bool.{ltb-true}
use Rattle.std.proofs.lemmas.List.{get_or-map}
use Rattle.ae_lex.specs.Heads.{heads}
use Rattle.ae_lex.specs.Words.{WordLine}
use Rattle.blif_read.specs.SourceSays.{ends_model, if_exdc}
use Rattle.blif_read.proofs.source.exdc_place.Goals as goal

place_in : (lines : List WordLine) (k : ℕ) → position (λ line. ends_model line.words) lines ≡ Some k → k < length lines
place_in lines k h = at (ltb (position_or_len (λ line. ends_model line.words) lines) (length lines)) refl h
  where
    at : (b : Bool) → ltb (position_or_len (λ line. ends_model line.words) lines) (length lines) ≡ b → cond b (Some (position_or_len (λ line. ends_model line.words) lines)) None ≡ Some k → k < length lines
    at true e h = (let is : position_or_len (λ line. ends_model line.words) lines ≡ k = cc in omega (arith, ltb-true _ _ e, is))
    at false e h = absurd cc

-- the words at a place that is there
words_at : (lines : List WordLine) (k : ℕ) (line : WordLine) → k < length lines → line ≡ get_or lines k line → heads (codes ".exdc") (get_or (map (λ l. l.words) lines) k []) ≡ heads (codes ".exdc") line.words
words_at lines k line lt is = ap (heads (codes ".exdc")) (get_or-map (λ (l : WordLine). l.words) lines k line [] lt ∙ ap (λ (l : WordLine). l.words) (sym is))

pub returns-in_err-place-clause-place : goal.returns-in_err-place-clause-place
returns-in_err-place-clause-place c = c.from_residual.ensures ∙ ap (if_exdc c.args.lines.now) (sym c.in_err-place.was ∙ c.model_end.ensures)

pub returns-then-begins-clause-place : goal.returns-then-begins-clause-place
returns-then-begins-clause-place c =
    let lines = c.args.lines.now in
    let k = c.in_ok-place.place in
    let line = c.index-lines-place.result in
    let exdc = sym (words_at lines k line (place_in lines k (sym c.model_end.ensures ∙ c.in_ok-place.was)) c.index-lines-place.is ∙ sym c.begins.ensures ∙ c.if-begins.true) in
    ap (λ (b : Bool). cond b (Some k) None) exdc ∙ ap (if_exdc lines) (sym c.in_ok-place.was ∙ c.model_end.ensures)

pub returns-else-begins-clause-place : goal.returns-else-begins-clause-place
returns-else-begins-clause-place c =
    let lines = c.args.lines.now in
    let k = c.in_ok-place.place in
    let line = c.index-lines-place.result in
    let row = sym (words_at lines k line (place_in lines k (sym c.model_end.ensures ∙ c.in_ok-place.was)) c.index-lines-place.is ∙ sym c.begins.ensures ∙ c.if-begins.false) in
    ap (λ (b : Bool). cond b (Some k) None) row ∙ ap (if_exdc lines) (sym c.in_ok-place.was ∙ c.model_end.ensures)
