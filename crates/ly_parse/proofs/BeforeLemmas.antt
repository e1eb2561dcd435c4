-- What a parser's stack was before a token.
use Rattle.std.proofs.Common.{◌≡◌, ℕ, ◌+◌, ◌-◌, ◌<◌, ◌≤◌, List, [], ◌∷◌, ◌++◌, length, drop, take, map}
use Rattle.std.proofs.Common.{All, refl, sym, ap, ◌∙◌, arith, slice_set, subst}
use Rattle.std.specs.Prelude.{Bool}
use Rattle.std.proofs.lemmas.List.{length-append, length-take-le, map-append, take-append-le, take-take}
use Rattle.std.proofs.lemmas.List.Elements.{All-push, All-tail}
use Rattle.ly_base.specs.declared.numbers.StateNo.{StateNo}
use Rattle.ly_pack.specs.Values.{action_from}
use Rattle.ly_pack.specs.declared.action.TableAction.{TableAction}
use Rattle.ly_pack.specs.declared.action.TableAction.TheVariants as action
use Rattle.ly_pack.specs.Machine.{Machine, TableRule, states_of}
use Rattle.ly_parse.specs.Parse.{Parse}
use Rattle.ly_parse.proofs.ReduceLemmas.{IsCut}
use Rattle.ly_parse.specs.Feeding.{Level, states_on, top_of}
use Rattle.ly_parse.specs.Private.Before.{before_of, before_on, levels_with_top, popped_in, states_in_levels}
use Rattle.ly_parse.specs.Private.Before.{top_in, with_top}
use Rattle.ly_parse.specs.Private.Before.{AreAlikeBelow, IsNoteOf, IsOpen}
use Rattle.ly_parse.specs.Private.Copied.{states_in, upward}
use Rattle.ly_parse.specs.Private.Stack.{level_from, parse_from, stack_from, IsParse}
use Rattle.ly_parse.specs.declared.before.Before.{Before}
use Rattle.ly_parse.specs.declared.level.Level as code
use Rattle.ly_parse.proofs.CopiedLemmas.{upward_append}
use Rattle.ly_parse.proofs.PassLemmas.{passed_stack, HasTop}
use Rattle.ly_parse.proofs.StackLemmas.{below, length-stack_from, stack_from-append}
use Rattle.ly_tree.specs.Forest.{Grown}

-- the states of levels, as they are kept and as contracts see them
upward_levels : (f : Grown) (levels : List code.Level)
    → map (λ l. l.state) (stack_from f levels) ≡ upward (map (λ l. l.state) levels)
upward_levels f [] = refl
upward_levels f (l ∷ levels) =
    ap (map (λ x. x.state)) (stack_from-append f (l ∷ []) levels)
    ∙ (map-append (λ x. x.state) (stack_from f levels) (level_from f l ∷ [])
    ∙ (ap (λ w. w ++ l.state.0 ∷ []) (upward_levels f levels)
    ∙ sym (upward_append (l.state ∷ []) (map (λ x. x.state) levels))))

states_apart : (stack : List Level) → states_on stack ≡ map (λ l. l.state) stack ++ 0 ∷ []
states_apart [] = refl
states_apart (l ∷ stack) = ap (λ w. l.state ∷ w) (states_apart stack)

pub states_levels : (f : Grown) (levels : List code.Level) → states_in_levels levels ≡ states_on (stack_from f levels)
states_levels f levels = sym (states_apart (stack_from f levels) ∙ ap (λ w. w ++ 0 ∷ []) (upward_levels f levels))

-- what a stack was is the same, as it is kept and as contracts see it
pub before_levels : (f : Grown) (levels : List code.Level) (b : Before)
    → before_of levels b ≡ before_on (stack_from f levels) b
before_levels f levels b =
    ap (λ w. top_in b.top ++ (popped_in b ++ w))
    (states_levels f (take b.kept levels)
    ∙ sym (ap states_on (ap (λ n. drop (n - b.kept) (stack_from f levels)) (length-stack_from f levels)
    ∙ below f levels b.kept)))

-- a note on levels is one on the stack that contracts see
pub noted : (f : Grown) (levels : List code.Level) (b : Before) (states : List ℕ) → b.kept ≤ length levels
    → before_of levels b ≡ states → IsNoteOf states (stack_from f levels) b
noted f levels b states kept same = record {
  kept = omega (arith, kept, length-stack_from f levels);
  same = sym (before_levels f levels b) ∙ same;
}

-- with another state on top
pub with_top_levels : (f : Grown) (levels : List code.Level) (top : ℕ)
    → levels_with_top top levels ≡ with_top top (stack_from f levels)
with_top_levels f [] top = refl
with_top_levels f (l ∷ levels) top =
    let one = length-stack_from f (l ∷ levels) in
    let one_more : 1 ≡ length (l ∷ levels) - length levels = omega arith in
    ap (λ w. top ∷ w) (states_levels f (take (length levels) (l ∷ levels)))
    ∙ cover (stack_from f (l ∷ levels)) (stack_from f (take (length levels) (l ∷ levels))) one
    (ap (λ k. drop k (stack_from f (l ∷ levels))) one_more ∙ below f (l ∷ levels) (length levels))
  where
    cover : (stack rest : List Level) → length stack ≡ length (l ∷ levels) → drop 1 stack ≡ rest
        → top ∷ states_on rest ≡ with_top top stack
    cover [] rest size e = absurd (omega (arith, size))
    cover (k ∷ stack) rest size e = ap (λ w. top ∷ states_on w) (sym e)

-- stacks that differ on top alone
pub top_put_back : (old new : List Level) (top : ℕ) → AreAlikeBelow old new → top ≡ top_of old
    → with_top top new ≡ states_on old
top_put_back [] [] top alike e = refl
top_put_back [] (k ∷ new) top alike e = absurd alike
top_put_back (l ∷ old) [] top alike e = absurd alike
top_put_back (l ∷ old) (k ∷ new) top alike e = ap (λ s. s ∷ states_on new) e
    ∙ ap (λ w. l.state ∷ states_on w) (sym alike)

-- the note that is begun on a stack with this state on top
pub begins : (m : Machine) (f : Grown) (levels seen : List code.Level) (p : Parse) (count : ℕ) (over : Bool) (b :
    Before)
    (top : ℕ) (states : List ℕ) → parse_from m f levels count over ≡ p → seen ≡ levels → b.kept ≤ length seen
    → before_of seen b ≡ levels_with_top top seen → with_top top p.stack ≡ states → IsNoteOf states p.stack b
begins m f levels seen p count over b top states view sees kept before same =
    subst (λ q. IsNoteOf states q.stack b) view
    (noted f levels b states (subst (λ w. b.kept ≤ length w) sees kept)
    (subst (λ w. before_of w b ≡ levels_with_top top w) sees before
    ∙ (with_top_levels f levels top ∙ (ap (λ q. with_top top q.stack) view ∙ same))))

-- passes change the state on top alone
pub alike_below : (p : Parse) (m : Machine) (f : Grown) (levels : List code.Level) (low under : ℕ) (k l : code.Level)
    → HasTop p m f levels low under k → l.term ≡ k.term
    → AreAlikeBelow p.stack (stack_from f (slice_set levels low l))
alike_below p m f levels low under k l h term =
    subst (λ w. AreAlikeBelow w (stack_from f (slice_set levels low l))) h.stack
    (subst (AreAlikeBelow (level_from f k ∷ stack_from f (take low levels)))
    (sym (passed_stack f levels low k l h.size term)) refl)

-- and leave one there
pub still_some : (p : Parse) (m : Machine) (f : Grown) (levels : List code.Level) (low under : ℕ) (k l : code.Level)
    → HasTop p m f levels low under k → l.term ≡ k.term → 0 < length (stack_from f (slice_set levels low l))
still_some p m f levels low under k l h term =
    subst (λ w. 0 < length w) (sym (passed_stack f levels low k l h.size term)) (omega arith)

-- What a reduction pops is noted: the levels up to a height stay, and another stands on them.
pub note_kept : (p : Parse) (n : ℕ) (r : TableRule) (low : ℕ) (m : Machine) (f : Grown)
    (levels seen left after : List code.Level) (a b : Before) (l : code.Level)
    (states : List ℕ) → IsCut p n r low m f levels → seen ≡ levels → left ≡ take low levels → after ≡ left ++ l ∷ []
    → before_of seen b ≡ before_of seen a → b.kept ≤ low → IsNoteOf states p.stack a
    → IsNoteOf states (stack_from f after) b
note_kept p n r low m f levels seen left after a b l states h sees cut pushes same kept before =
    let front = take low levels in
    let fits = h.size in
    let size = length-take-le low levels (omega (arith, fits)) in
    let whole = pushes ∙ ap (λ w. w ++ l ∷ []) cut in
    let long : length after ≡ low + 1 = ap length whole ∙ (length-append front (l ∷ []) ∙ ap (λ n. n + 1) size) in
    let there : take b.kept after ≡ take b.kept levels
    = ap (take b.kept) whole ∙ (take-append-le b.kept front (l ∷ []) (omega (arith, size, kept))
    ∙ take-take b.kept low levels kept) in
    noted f after b states (omega (arith, kept, long))
    (ap (λ w. top_in b.top ++ (popped_in b ++ states_in_levels w)) there
    ∙ (subst (λ w. before_of w b ≡ before_of w a) sees same
    ∙ (before_levels f levels a ∙ (ap (λ w. before_on w a) h.stack ∙ before.same))))

-- the states of a parse's stack are known, the bottom's among them
pub states_known : (m : Machine) (f : Grown) (levels : List code.Level) → IsParse m f levels
    → All (λ s. s < states_of m) (states_on (stack_from f levels))
states_known m f levels h = subst (All (λ s. s < states_of m)) (states_levels f levels)
    (All-push (λ s. s < states_of m) (upward (map (λ l. l.state) levels)) 0 (upward_known levels h.states)
    h.machine.bottom)
  where
    upward_known : (levels : List code.Level) → All (λ l. l.state.0 < states_of m) levels
        → All (λ s. s < states_of m) (upward (map (λ l. l.state) levels))
    upward_known [] all = λ k d lt. absurd (omega (arith, lt))
    upward_known (l ∷ levels) all = subst (All (λ s. s < states_of m))
        (sym (upward_append (l.state ∷ []) (map (λ x. x.state) levels)))
        (All-push (λ s. s < states_of m) (upward (map (λ x. x.state) levels)) l.state.0
        (upward_known levels (All-tail (λ x. x.state.0 < states_of m) l levels all)) (all 0 l (omega arith)))

-- the states of a stack as it was, once they are listed
pub listed_states : (m : Machine) (f : Grown) (levels seen : List code.Level) (p : Parse) (count : ℕ) (over : Bool)
    (b : Before) (listed states : List StateNo) → parse_from m f levels count over ≡ p → seen ≡ levels
    → states_in listed ≡ before_of seen b → states ≡ listed → states_in states ≡ before_on p.stack b
listed_states m f levels seen p count over b listed states view sees e same =
    ap states_in same ∙ (e ∙ (ap (λ w. before_of w b) sees
    ∙ (before_levels f levels b ∙ ap (λ q. before_on q.stack b) view)))

-- what is shifted is read
pub shifted_not_open : (a : TableAction) → ((s : StateNo) × (a ≡ action.Shift s)) → IsOpen (action_from a) → ⊥
shifted_not_open a shifts h = subst (λ x. IsOpen (action_from x)) shifts.1 h
