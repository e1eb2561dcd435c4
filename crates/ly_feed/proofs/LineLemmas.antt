-- What is written of a text that has ended.
use Rattle.std.proofs.Common.{◌≡◌, ◌∙◌, ◌++◌, ◌∷◌, ℕ, List, [], Err, Ok, Option, Result, ap, subst, sym}
use Rattle.std.specs.Global.{Global}
use Rattle.std.specs.Io.KnownBytes.{Appends}
use Rattle.std.specs.Prelude.{IfOk, OnOk}
use Rattle.std.specs.declared.vec.Vec.{Vec}
use Rattle.ly_base.specs.Bytes.{newline}
use Rattle.ly_feed.specs.Verdict.{Verdict, accepted, syntax_line, written_in}
use Rattle.ly_print.specs.declared.answer_form.AnswerForm.{AnswerForm}
use Rattle.ly_print.specs.declared.answer_form.AnswerForm.TheVariants.{Json, Plain}
use Rattle.ly_tree.specs.Json.{as_json}
use Rattle.ly_tree.specs.Shown.{plain, Vocabulary}
use Rattle.ly_tree.specs.Written as tree
use Rattle.ly_tree.specs.Term.{Term}

-- the line of a term that a verdict names
pub term_written : (form : AnswerForm) (v w : Vocabulary) (d : Term) (said : Verdict) → v ≡ w → said ≡ accepted d
    → written_in form v (accepted d) ≡ written_in form w said
term_written form v w d said words is = ap (λ z. written_in form z (accepted d)) words ∙ ap (written_in form w) (sym is)

-- the line of the end is that of each token of its terminal
pub end_named : {E : Type 0} (v : Vocabulary) (k t at : ℕ) (bytes : List ℕ) (r : Result (Vec ℕ Global) E) → t ≡ 0
    → IfOk r (λ line. (v : Vocabulary) (bytes : List ℕ)
    → line.items ≡ syntax_line v k (record { terminal = 0; at = at; bytes = bytes }))
    → IfOk r (λ line. line.items ≡ syntax_line v k (record { terminal = t; at = at; bytes = bytes }))
end_named v k t at bytes (Ok line) zero h = h v bytes
    ∙ ap (λ n. syntax_line v k (record { terminal = n; at = at; bytes = bytes })) (sym zero)
end_named v k t at bytes (Err e) zero h = tt

-- what plain text makes of a term is its line in a form that is plain
pub plain_of_form : (form : AnswerForm) (v w : Vocabulary) (d : Term) → form ≡ Plain → v ≡ w
    → tree.written (plain v) d ++ newline ∷ [] ≡ written_in form w (accepted d)
plain_of_form form v w d is words = ap (λ x. tree.written (plain x) d ++ newline ∷ []) words
    ∙ ap (λ x. written_in x w (accepted d)) (sym is)

-- and what JSON makes of it that in JSON
pub json_of_form : (form : AnswerForm) (v w : Vocabulary) (d : Term) → form ≡ Json → v ≡ w
    → tree.written (as_json v) d ++ newline ∷ [] ≡ written_in form w (accepted d)
json_of_form form v w d is words = ap (λ x. tree.written (as_json x) d ++ newline ∷ []) words
    ∙ ap (λ x. written_in x w (accepted d)) (sym is)

-- what was written of terms is so by other words for their lines
pub appended_so : {A E : Type 0} (P : Term → Type 0) (f g : Term → List ℕ) (before after : Option (List ℕ))
    (r : Result A E) → ((t : Term) → f t ≡ g t) → OnOk r ((t : Term) → P t → Appends before after (f t))
    → OnOk r ((t : Term) → P t → Appends before after (g t))
appended_so P f g before after (Ok x) same h = λ t is. subst (Appends before after) (same t) (h t is)
appended_so P f g before after (Err e) same h = tt
