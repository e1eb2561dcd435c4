-- The tokens of a text, lexeme by lexeme.
use Rattle.std.proofs.Common.{◌≡◌, ◌≢◌, ◌∙◌, ◌<◌, ◌≤◌, ◌+◌, ◌-◌, ℕ, zero, suc, List, [], ◌∷◌, ◌++◌, All, Bool, Option}
use Rattle.std.proofs.Common.{None, Some, ap, append-nil, append_assoc, arith, drop, drop-drop, false, get_or, length}
use Rattle.std.proofs.Common.{length-drop, map, refl, subst, sym, take, true}
use Rattle.std.specs.Prelude.{option_and_then, slice_get, slice_index}
use Rattle.std.proofs.lemmas.List.Elements.{All-drop}
use Rattle.ly_base.proofs.LexedLemmas.{leads_more, leads_on, tokens_more}
use Rattle.ly_base.specs.Lexed.{Lexed, LexedTo, Place, Token, moved, place_after, start_of, token_if, tokens_from}
use Rattle.ly_base.specs.declared.lexeme.End.{End}
use Rattle.ly_base.specs.declared.lexeme.End.TheVariants.{BadCut, Clean, Stuck}
use Rattle.ly_base.specs.declared.lexeme.Lexeme.{Lexeme}
use Rattle.ly_listing.specs.Labels.{EndsFrom, EndsSo, begin_by, fact_for, fact_of, label_at, labelling}
use Rattle.ly_listing.specs.Listings.{ArePassed}
use Rattle.ly_listing.specs.Private.SoFar.{LeadsOn, SoFar, StandsIn}
use Rattle.ly_listing.specs.declared.rule_labels.RuleLabel.{RuleLabel}
use Rattle.ly_listing.specs.declared.rule_labels.RuleLabels.{RuleLabels}
use Rattle.ly_scan.proofs.KnownWalkLemmas.{known_on}
use Rattle.ly_scan.proofs.LexerLemmas.{known_passed}
use Rattle.ly_scan.proofs.LexingLemmas.{taken_within, tokens_on}
use Rattle.ly_scan.proofs.OneLexingLemmas.{one_lexing}
use Rattle.ly_scan.proofs.PieceLemmas.{lexeme_at}
use Rattle.ly_scan.specs.KnownWalks.{AreKnown}
use Rattle.ly_scan.specs.Lexer.{IsLexemeAt, ScanEndsAt, Scanner}
use Rattle.ly_scan.specs.Pieces.{IsDecided, PassesOver, and_one, none_yet}

-- a run goes on from where it has come to
led_on : (Is : Place → Lexeme → Type 0) (next : ℕ → Option ℕ) (p q r : Place) (ts us : List Lexeme)
    → LexedTo Is next p ts q → LexedTo Is next q us r → LexedTo Is next p (ts ++ us) r
led_on Is next p q r [] us h k = subst (λ x. LexedTo Is next x us r) h k
led_on Is next p q r (t ∷ ts) us h k = (h.0, led_on Is next (place_after next p t) q r ts us h.1 k)

-- one lexeme more
pub one_more : (l : RuleLabels) (s : Scanner) (p q r : Place) (t : Lexeme) (begin : Option ℕ) (token : List ℕ)
    (told more : List (Token (List ℕ))) → IsLexemeAt s q t → begin ≡ begin_by l t.rule.0
    → r ≡ moved q t.taken begin → token ≡ take t.taken q.rest
    → more ≡ told ++ token_if (labelling l t.rule.0 token) q.at token → SoFar l s p q told → SoFar l s p r more
one_more l s p q r t begin token told more is b e k n f =
    let there : moved q t.taken (begin_by l t.rule.0) ≡ r = ap (moved q t.taken) (sym b) ∙ sym e in (
      f.0 ++ t ∷ [],
      subst (λ x. LexedTo (IsLexemeAt s) (begin_by l) p (f.0 ++ t ∷ []) x) there
          (leads_more (IsLexemeAt s) (begin_by l) p q f.0 t f.1 is),
      n ∙ ap (λ z. told ++ token_if (labelling l t.rule.0 z) q.at z) k
          ∙ ap (λ z. z ++ token_if (labelling l t.rule.0 (take t.taken q.rest)) q.at (take t.taken q.rest)) f.2
          ∙ sym (tokens_more (labelling l) (IsLexemeAt s) (begin_by l) p q f.0 t f.1),
    )

-- behind lexemes that are passed over the tokens so far are the same
pub passes_tokens : (l : RuleLabels) (s : Scanner) (passed : List Bool) (start p : Place) (told : List (Token (List ℕ)))
    → ArePassed passed (labelling l) (begin_by l) → SoFar l s start p told → {r : Place} → PassesOver s passed p r
    → SoFar l s start r told
passes_tokens l s passed start p told are f none_yet = f
passes_tokens l s passed start p told are f (and_one {r = q} t before fast one is) =
    let none = are t.rule.0 is in
    let token = take t.taken q.rest in
    one_more l s start q (moved q 1 None) t None token told told (lexeme_at s q false t fast) (sym none.0)
    (ap (λ n. moved q n None) (sym one)) refl (sym (append-nil told) ∙ ap (λ o. told ++ token_if o q.at token)
    (sym (none.1 token))) (passes_tokens l s passed start p told are f before)

-- the tokens of a beginning, and of what goes on from there
pub so_far_on : (l : RuleLabels) (s : Scanner) (p q r : Place) (told more : List (Token (List ℕ)))
    → SoFar l s p q told → SoFar l s q r more → SoFar l s p r (told ++ more)
so_far_on l s p q r told more f g = (
  f.0 ++ g.0,
  led_on (IsLexemeAt s) (begin_by l) p q r f.0 g.0 f.1 g.1,
  ap (λ z. z ++ more) f.2 ∙ ap (λ z. tokens_from (labelling l) p.at p.rest f.0 ++ z) g.2
      ∙ sym (tokens_on (labelling l) (IsLexemeAt s) (begin_by l) p q f.0 g.0 f.1),
)

-- no lexeme leads on to the same place
pub leads_nowhere : (l : RuleLabels) (s : Scanner) (p : Place) → LeadsOn l s p p []
leads_nowhere l s p = record {
  so_far = ([], refl, refl);
  fewer = omega arith;
  known = λ ahead known h. h;
}

-- one that is told by a fact leads on behind others, and those of one byte that are passed over
pub leads_told : (l : RuleLabels) (s : Scanner) (passed : List Bool) (p q r t : Place) (lexeme : Lexeme)
    (taken : ℕ) (token : List ℕ) (told more : List (Token (List ℕ))) → ArePassed passed (labelling l) (begin_by l)
    → LeadsOn l s p q told → PassesOver s passed q r → length r.rest ≤ length q.rest
    → IsDecided false s r lexeme → lexeme.taken ≡ taken → begin_by l lexeme.rule.0 ≡ None
    → t ≡ moved r taken None → token ≡ take taken r.rest
    → more ≡ told ++ token_if (labelling l lexeme.rule.0 token) r.at token → LeadsOn l s p t more
leads_told l s passed p q r t lexeme taken token told more are h over left fast is none at by line =
    let some = fast.some in let within = fast.within in
    let there : t ≡ moved r lexeme.taken None = at ∙ ap (λ n. moved r n None) (sym is) in record {
      so_far = one_more l s p r t lexeme None token told more (lexeme_at s r false lexeme fast) (sym none) there
          (by ∙ ap (λ n. take n r.rest) (sym is)) line (passes_tokens l s passed p q told are h.so_far over);
      fewer = omega (
        arith,
        h.fewer,
        left,
        ap (λ (x : Place). length x.rest) there,
        length-drop lexeme.taken r.rest,
      );
      known = λ ahead known k. subst (λ (x : Place). AreKnown ahead true x.rest known) (sym there)
          (known_on ahead true r.rest known lexeme.taken within
          (known_passed s passed ahead true known q r over (h.known ahead known k)));
    }

-- or those alone
pub leads_over : (l : RuleLabels) (s : Scanner) (passed : List Bool) (p q r : Place) (told : List (Token (List ℕ)))
    → ArePassed passed (labelling l) (begin_by l) → LeadsOn l s p q told → PassesOver s passed q r
    → length r.rest ≤ length q.rest → LeadsOn l s p r told
leads_over l s passed p q r told are h over left = record {
  so_far = passes_tokens l s passed p q told are h.so_far over;
  fewer = omega (arith, h.fewer, left);
  known = λ ahead known k. known_passed s passed ahead true known q r over (h.known ahead known k);
}

-- the first byte of some
first_taken : (n : ℕ) (xs : List ℕ) → 0 < n → slice_index (take n xs) 0 ≡ slice_index xs 0
first_taken zero xs some = absurd (omega (arith, some))
first_taken (suc n) [] some = refl
first_taken (suc n) (x ∷ xs) some = refl

-- What the fact of a rule says that isn't 0.
record IsTold (l : RuleLabels) (i fact : ℕ) : Type 0 where
  none : begin_by l i ≡ None
  label : (bytes : List ℕ) → labelling l i bytes ≡ label_at l.labels.items fact (slice_index bytes 0)

fact_told : (labels : List (List ℕ)) (rules : List RuleLabel) (i fact : ℕ) → get_or (map fact_of rules) i 0 ≡ fact
    → fact ≢ 0 → (option_and_then (λ (r : RuleLabel). r.begin) (slice_get rules i) ≡ None)
    × ((bytes : List ℕ) → option_and_then (λ (r : RuleLabel). label_at labels r.number (slice_index bytes 0))
    (slice_get rules i) ≡ label_at labels fact (slice_index bytes 0))
fact_told labels [] i fact is some = absurd (some (sym is))
fact_told labels (r ∷ rules) zero fact is some = by r.begin refl
  where
    by : (o : Option ℕ) → r.begin ≡ o → (r.begin ≡ None)
        × ((bytes : List ℕ) → label_at labels r.number (slice_index bytes 0)
        ≡ label_at labels fact (slice_index bytes 0))
    by None e = (
      e,
      λ bytes. let same : r.number ≡ fact = sym (ap (λ o. fact_for o r.number) e) ∙ is in
          ap (λ n. label_at labels n (slice_index bytes 0)) same,
    )
    by (Some c) e = absurd (some (sym is ∙ ap (λ o. fact_for o r.number) e))
fact_told labels (r ∷ rules) (suc i) fact is some = fact_told labels rules i fact is some

pub none_set : (l : RuleLabels) (i fact : ℕ) → get_or (map fact_of l.rules.items) i 0 ≡ fact → fact ≢ 0
    → begin_by l i ≡ None
none_set l i fact is some = (fact_told l.labels.items l.rules.items i fact is some).0

-- the label of a token by the fact of its rule
pub told_label : (l : RuleLabels) (rule fact first n : ℕ) (rest token : List ℕ)
    → get_or (map fact_of l.rules.items) rule 0 ≡ fact → fact ≢ 0 → token ≡ take n rest → 0 < n
    → first ≡ slice_index rest 0 → label_at l.labels.items fact first ≡ labelling l rule token
told_label l rule fact first n rest token is more by some begins =
    let at : slice_index token 0 ≡ first
    = ap (λ t. slice_index t 0) by ∙ first_taken n rest some ∙ sym begins in
    ap (label_at l.labels.items fact) (sym at)
    ∙ sym ((fact_told l.labels.items l.rules.items rule fact is more).1 token)

-- where a run so far ends, that from its start does
pub ends_from : (l : RuleLabels) (s : Scanner) (p : Place) (told : List (Token (List ℕ))) (q : Place) (e : End)
    → ScanEndsAt s q e → SoFar l s p q told → EndsFrom s l p e
ends_from l s p told q e ends f = (
  f.0 ++ [],
  leads_on (IsLexemeAt s) (ScanEndsAt s) (begin_by l) p q f.0 [] e f.1 ends,
)

-- so does the text's
pub ends_there : (l : RuleLabels) (s : Scanner) (text : List ℕ) (told : List (Token (List ℕ))) (q : Place) (e : End)
    → ScanEndsAt s q e → SoFar l s (start_of text) q told → EndsSo s l text e
ends_there l s text told q e ends f = ends_from l s (start_of text) told q e ends f

-- and where it ends from the place where the run so far has come
pub ends_on : (l : RuleLabels) (s : Scanner) (text : List ℕ) (told : List (Token (List ℕ))) (q : Place) (e : End)
    → EndsFrom s l q e → SoFar l s (start_of text) q told → EndsSo s l text e
ends_on l s text told q e ends f = (
  f.0 ++ ends.0,
  leads_on (IsLexemeAt s) (ScanEndsAt s) (begin_by l) (start_of text) q f.0 ends.0 e f.1 ends.1,
)

-- a run ends in one way
pub one_run_end : (l : RuleLabels) (s : Scanner) (text : List ℕ) (e d : End) → EndsSo s l text e → EndsSo s l text d
    → e ≡ d
one_run_end l s text e d a b = (one_lexing s (begin_by l) (start_of text) a.0 b.0 e d a.1 b.1).1

-- the bytes that are left are the last ones of the text, at its start, some bytes on, and behind lexemes
pub stands_at_start : (text : List ℕ) (p : Place) → p ≡ start_of text → All (λ b. b < 256) text → StandsIn text p
stands_at_start text p at bytes = subst (StandsIn text) (sym at) (record { whole = omega arith; bytes = bytes })

pub stands_moved : (text : List ℕ) (p : Place) (n : ℕ) (begin : Option ℕ) → n ≤ length p.rest → StandsIn text p
    → StandsIn text (moved p n begin)
stands_moved text p n begin within h = record {
  whole = omega (arith, within, h.whole, length-drop n p.rest);
  bytes = All-drop (λ b. b < 256) n p.rest h.bytes;
}

stands_on : (text : List ℕ) (s : Scanner) (next : ℕ → Option ℕ) (p q : Place) (ts : List Lexeme)
    → LexedTo (IsLexemeAt s) next p ts q → StandsIn text p → StandsIn text q
stands_on text s next p q [] h k = subst (StandsIn text) (sym h) k
stands_on text s next p q (t ∷ ts) h k =
    let is = h.0 in
    let taken = taken_within (s.cut t.rule.0) t.matched t.taken is.0.some_byte is.1 in
    let matched : t.matched ≤ length p.rest = is.0.within in
    stands_on text s next (place_after next p t) q ts h.1
    (stands_moved text p t.taken (next t.rule.0) (omega (arith, taken.1, matched)) k)

pub stands_there : (text : List ℕ) (l : RuleLabels) (s : Scanner) (p q : Place) (told : List (Token (List ℕ)))
    → SoFar l s p q told → StandsIn text p → StandsIn text q
stands_there text l s p q told f h = stands_on text s (begin_by l) p q f.0 f.1 h

-- where a run gets stuck is a byte of the text
pub stuck_within : (s : Scanner) (text : List ℕ) (q : Place) (e : End) (byte : ℕ) → ScanEndsAt s q e
    → StandsIn text q → e ≡ Stuck byte → byte ≤ length text
stuck_within s text q Clean byte ends h is = absurd cc
stuck_within s text q (BadCut b) byte ends h is = absurd cc
stuck_within s text q (Stuck b) byte ends h is =
    let same : b ≡ byte = cc in omega (arith, same, ends.1, h.whole)

-- and where it is known to
pub stuck_known : (l : RuleLabels) (s : Scanner) (text : List ℕ) (q : Place) (found known : End)
    (told : List (Token (List ℕ))) (byte : ℕ) → ScanEndsAt s q found → EndsSo s l text known
    → SoFar l s (start_of text) q told → StandsIn text q → known ≡ Stuck byte → byte ≤ length text
stuck_known l s text q found known told byte ends run f stands is = stuck_within s text q found byte ends stands
    (one_run_end l s text found known (ends_there l s text told q found ends f) run ∙ is)
