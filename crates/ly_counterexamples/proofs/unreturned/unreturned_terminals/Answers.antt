use Rattle.std.proofs.Common.{◌≡◌, ◌∙◌, ◌<◌, ◌⊎◌, ℕ, ap, length, map, subst, sym}
use Rattle.std.proofs.lemmas.List.{length-map}
use Rattle.std.proofs.lemmas.Result.{IfOk-weaker}
use Rattle.ly_base.specs.declared.numbers.Sym.{Sym}
use Rattle.ly_join.specs.Terminals.{terminal_from}
use Rattle.ly_counterexamples.specs.Doubts.{AreRising, IsMatched, IsUnreturned, Returns}
use Rattle.ly_counterexamples.specs.Private.FirstBytes.{StandsFirst}
use Rattle.ly_counterexamples.specs.Private.Marks.{AreAdded, AreMarked}
use Rattle.ly_counterexamples.specs.Private.Unmarked.{IsLiteralOf, IsUnmarked, ReturnsItself}
use Rattle.ly_counterexamples.proofs.MarkLemmas.{all_added, both_added, marked_as}
use Rattle.ly_counterexamples.proofs.RisingLemmas.{rising_as}
use Rattle.ly_counterexamples.proofs.UnmarkedLemmas.{returns_by, unmarked_as}
use Rattle.ly_counterexamples.proofs.unreturned.unreturned_terminals.Goals as goal

pub returns : goal.returns
returns c =
    let s = c.args.spec.now in
    let A = c.args.dfa.now in
    let matched = c.in_ok-matched.matched in
    let bytes = c.in_ok-bytes.bytes in
    let acts = c.scanner-actions.ensures in
    let none = c.in_ok-returned.returned in
    let middle = c.mark_own.new.returned in
    let last = c.mark_literals.new.returned in
    let Own : ℕ → Type 0 = λ t. (i : ℕ) × (i < length s.scanner) × ReturnsItself s.scanner matched i t in
    let First : ℕ → Type 0 = λ t. IsLiteralOf s.terminals bytes t in
    let own : AreMarked (length s.scanner) (IsMatched A) matched
    = subst (λ n. AreMarked n (IsMatched A) matched) (ap length acts) c.in_ok-matched.ensures.matched in
    let first : AreMarked 256 (StandsFirst s.scanner A) bytes
    = subst (λ xs. AreMarked 256 (StandsFirst xs A) bytes) acts c.in_ok-bytes.ensures in
    let names = c.terminals.result.now in
    let long : length names ≡ length s.terminals
    = sym (length-map names terminal_from) ∙ ap length c.terminals.ensures in
    let empty : AreMarked (length s.terminals) (λ t. ⊥) none
    = subst (λ n. AreMarked n (λ t. ⊥) none) long c.in_ok-returned.ensures in
    let by_own : AreAdded Own none middle
    = subst (λ xs. AreAdded (λ t. (i : ℕ) × (i < length xs) × ReturnsItself xs matched i t) none middle) acts
    c.mark_own.ensures in
    let by_first : AreAdded First middle last
    = subst (λ ts. AreAdded (IsLiteralOf ts bytes) middle last) c.terminals-2.ensures c.mark_literals.ensures in
    let marked = all_added (λ t. Own t ⊎ First t) (length s.terminals) none last empty
    (both_added Own First none middle last by_own by_first) in
    let returned : AreMarked (length s.terminals) (Returns s A) last
    = marked_as (λ t. Own t ⊎ First t) (Returns s A) (length s.terminals) last
    (λ t lt. returns_by s A c.matched_rules.ensures.whole matched bytes own first t) marked in
    IfOk-weaker c.unmarked_terminals.result (λ found. AreRising (IsUnmarked s last) (map (λ t. t.0) found.items))
    (λ found. AreRising (IsUnreturned s A) (map (λ t. t.0) found.items))
    (λ found. rising_as (IsUnmarked s last) (IsUnreturned s A) (map (λ (t : Sym). t.0) found.items)
    (unmarked_as s (Returns s A) last returned)) c.unmarked_terminals.ensures
