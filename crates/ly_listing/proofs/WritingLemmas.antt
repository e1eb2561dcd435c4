-- The lines of a text on their way to a writer.
use Rattle.std.proofs.Common.{◌≡◌, ◌∙◌, ◌<◌, ◌≤◌, ◌+◌, ◌^◌, ℕ, List, [], ◌++◌, Err, Ok, Option, ap, append-nil, append_assoc, arith}
use Rattle.std.proofs.Common.{length, refl, subst, sym}
use Rattle.ly_base.proofs.LexedLemmas.{leads_on}
use Rattle.ly_base.specs.Lexed.{Place, Token, start_of, token_if, tokens_from}
use Rattle.ly_base.specs.declared.lexeme.End.{End}
use Rattle.ly_base.specs.declared.lexeme.End.TheVariants.{BadCut, Clean, Stuck}
use Rattle.ly_listing.specs.Labels.{EndsSo, IsLabelListing, begin_by, labelled_lines, labelling}
use Rattle.ly_listing.specs.Listings.{end_line}
use Rattle.ly_listing.specs.Private.SoFar.{LeadsOn, SoFar}
use Rattle.ly_listing.specs.declared.rule_labels.RuleLabels.{RuleLabels}
use Rattle.ly_listing.proofs.RoomLemmas.{end_len, lines_append}
use Rattle.ly_listing.proofs.TokenLemmas.{ends_there, one_run_end, so_far_on}
use Rattle.ly_print.proofs.TextWriterLemmas.{appended_twice, cut_from, cut_more, same_bytes}
use Rattle.ly_print.specs.TextWriter.{IsAppended, IsCutShort, Outgoing}
use Rattle.ly_print.specs.declared.answer_form.AnswerForm.{AnswerForm}
use Rattle.ly_print.specs.declared.answer_form.AnswerForm.TheVariants.{Json, Plain}
use Rattle.ly_print.specs.declared.whole.WriteFault.{WriteFault}
use Rattle.ly_scan.proofs.LexingLemmas.{lexes, tokens_on}
use Rattle.ly_scan.specs.Lexer.{IsLexemeAt, ScanEndsAt, Scanner}
use Rattle.std.specs.Prelude.{Result}

-- the line of a token, told otherwise
pub line_told : (form : AnswerForm) (other text : List ℕ) (p o : Option (List ℕ)) (n at : ℕ) (token : List ℕ)
    → other ≡ text → p ≡ o → n ≡ at
    → labelled_lines form other (token_if p n token) ≡ labelled_lines form text (token_if o at token)
line_told form other text p o n at token same label there =
    ap (λ t. labelled_lines form t (token_if p n token)) same
    ∙ ap (λ x. labelled_lines form text (token_if x n token)) label
    ∙ ap (λ k. labelled_lines form text (token_if o k token)) there

-- the last line, if there is one
pub end_fits : (form : AnswerForm) (text : List ℕ) (e : End) → ((byte : ℕ) → e ≡ Stuck byte → byte ≤ length text)
    → length text < 2 ^ 63 → length (end_line form text e) ≤ 256
end_fits form text Clean within few = omega arith
end_fits Plain text (Stuck byte) within few = end_len Plain text byte (within byte refl) few
end_fits Json text (Stuck byte) within few = end_len Json text byte (within byte refl) few
end_fits form text (BadCut byte) within few = omega arith

module _ (form : AnswerForm) (text : List ℕ) (l : RuleLabels) (s : Scanner) where
  -- the lines of tokens, and of others that follow
  pub lines_twice : (o o' o'' : Outgoing) (before between now : Option (List ℕ)) (told more : List (Token (List ℕ)))
      (r : Result (Unit {0}) WriteFault) → IsAppended o o' before between (labelled_lines form text told) (Ok tt)
      → IsAppended o' o'' between now (labelled_lines form text more) r
      → IsAppended o o'' before now (labelled_lines form text (told ++ more)) r
  lines_twice o o' o'' before between now told more r h k =
      same_bytes o o'' before now (labelled_lines form text told ++ labelled_lines form text more)
      (labelled_lines form text (told ++ more)) r (sym (lines_append form text told more))
      (appended_twice o o' o'' before between now (labelled_lines form text told) (labelled_lines form text more) tt r
      h k)

  -- so it is where the tokens so far are on their way
  pub on_its_way : (start p q : Place) (o o' o'' : Outgoing) (before between now : Option (List ℕ))
      → (told : List (Token (List ℕ))) × SoFar l s start p told
      × IsAppended o o' before between (labelled_lines form text told) (Ok tt)
      → (more : List (Token (List ℕ))) × LeadsOn l s p q more
      × IsAppended o' o'' between now (labelled_lines form text more) (Ok tt)
      → (told : List (Token (List ℕ))) × SoFar l s start q told
      × IsAppended o o'' before now (labelled_lines form text told) (Ok tt)
  on_its_way start p q o o' o'' before between now f g = (
    f.0 ++ g.0,
    so_far_on l s start p q f.0 g.0 f.1 g.1.so_far,
    lines_twice o o' o'' before between now f.0 g.0 (Ok tt) f.2 g.2,
  )

  -- the lines of a beginning go on to some end
  begins : (q : Place) (told : List (Token (List ℕ))) → SoFar l s (start_of text) q told
      → (e : End) × (more : List ℕ) × IsLabelListing form s l text e (labelled_lines form text told ++ more)
  begins q told f =
      let all : length q.rest ≤ length q.rest = omega arith in
      let run = lexes s (begin_by l) (length q.rest) q all in
      let behind = tokens_from (labelling l) q.at q.rest run.0 in
      let lines = labelled_lines form text in
      let last = end_line form text run.1 in (
        run.1,
        lines behind ++ last,
        (
          f.0 ++ run.0,
          leads_on (IsLexemeAt s) (ScanEndsAt s) (begin_by l) (start_of text) q f.0 run.0 run.1 f.1 run.2,
          sym (append_assoc (lines told) (lines behind) last)
              ∙ ap (λ z. z ++ last) (sym (lines_append form text told behind) ∙ ap (λ z. lines (z ++ behind)) f.2
              ∙ ap lines (sym (tokens_on (labelling l) (IsLexemeAt s) (begin_by l) (start_of text) q f.0 run.0 f.1))),
        ),
      )

  -- the writer failed at the lines of a beginning: what went out is a beginning of the lines to the end that is known
  pub fails_at : (q : Place) (told : List (Token (List ℕ))) (known : End) (o o' : Outgoing)
      (before now : Option (List ℕ)) (fault : WriteFault) → EndsSo s l text known
      → o ≡ record { sent = 0; held = [] } → SoFar l s (start_of text) q told
      → IsAppended o o' before now (labelled_lines form text told) (Err fault)
      → (lines : List ℕ) × IsLabelListing form s l text known lines × IsCutShort before now fault.written lines
  fails_at q told known o o' before now fault ends none f failed =
      let run = begins q told f in
      let lines = labelled_lines form text told in
      let same = one_run_end l s text run.0 known (run.2.0, run.2.1) ends in (
        lines ++ run.1,
        subst (λ e. IsLabelListing form s l text e (lines ++ run.1)) same run.2,
        cut_more before now fault.written lines run.1 (cut_from o o' before now lines none fault failed),
      )

  -- where a run comes to an end, that is the one that is known, and with its line all is told
  pub all_known : (q : Place) (found known : End) (told : List (Token (List ℕ))) (more : List ℕ)
      → EndsSo s l text known → ScanEndsAt s q found
      → more ≡ labelled_lines form text told ++ end_line form text known → SoFar l s (start_of text) q told
      → IsLabelListing form s l text known more
  all_known q found known told more ends at n f =
      let one = one_run_end l s text found known (ends_there l s text told q found at f) ends in (
        f.0 ++ [],
        leads_on (IsLexemeAt s) (ScanEndsAt s) (begin_by l) (start_of text) q f.0 [] known f.1
            (subst (λ e. ScanEndsAt s q e) one at),
        n ∙ ap (λ z. labelled_lines form text z ++ end_line form text known) (f.2
            ∙ ap (tokens_from (labelling l) 0 text) (sym (append-nil f.0))),
      )
