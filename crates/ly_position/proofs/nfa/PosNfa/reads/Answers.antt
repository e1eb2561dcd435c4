use Rattle.std.proofs.Common.{◌≡◌, ◌<◌, ◌∙◌, ℕ, [], Bool, true, false, Contains, ap, arith, length, subst, sym}
use Rattle.std.specs.Prelude.{MatchBool}
use Rattle.std.proofs.lemmas.List.{get_or-map, length-map}
use Rattle.ly_base.specs.ByteSet.{has, members}
use Rattle.ly_base.specs.declared.byte_set.ByteSet.{ByteSet}
use Rattle.ly_base.proofs.ByteSetLemmas.{members_contain}
use Rattle.ly_base.proofs.MemberLemmas.{Contains-none}
use Rattle.ly_position.specs.Nfa.{Nfa, ReadsByte, bytes_of, reading}
use Rattle.ly_position.specs.Position.{position_in}
use Rattle.ly_position.proofs.nfa.PosNfa.reads.Goals as goal

told : (s : ByteSet) (b : ℕ) (test : Bool) → b < 256 → test ≡ has s b
    → MatchBool test (Contains (members s) b) (Contains (members s) b → ⊥)
told s b true l e = (members_contain s b).1 (l, sym e)
told s b false l e = λ h. let off : true ≡ false = sym ((members_contain s b).0 h).1 ∙ sym e in cc

pub returns-in-Reads : goal.returns-in-Reads
returns-in-Reads c =
    let slots = c.self.inside.slots.items in
    let forks = c.self.inside.forks.items in
    let p = c.args.number in
    let less : p < length slots = omega (
      arith,
      subst (λ (nfa : Nfa). p < length nfa.positions) (sym c.self.view_is) c.requires,
      length-map slots (position_in (length slots) forks),
    ) in
    let at = get_or-map (position_in (length slots) forks) slots p c.index.result.now (reading [] []) less
    ∙ ap (position_in (length slots) forks) (sym c.index.ensures ∙ c.in-Reads.is) in
    subst (λ (nfa : Nfa). MatchBool c.contains.result (ReadsByte nfa p c.args.byte) (ReadsByte nfa p c.args.byte → ⊥))
    c.self.view_is
    (subst (λ x. MatchBool c.contains.result (Contains (bytes_of x) c.args.byte)
    (Contains (bytes_of x) c.args.byte → ⊥)) (sym at)
    (told c.in-Reads.bytes c.args.byte c.contains.result c.ranges.byte.fits c.contains.ensures))

pub returns-in-Ends : goal.returns-in-Ends
returns-in-Ends c = λ h.
    let slots = c.self.inside.slots.items in
    let forks = c.self.inside.forks.items in
    let p = c.args.number in
    let less : p < length slots = omega (
      arith,
      subst (λ (nfa : Nfa). p < length nfa.positions) (sym c.self.view_is) c.requires,
      length-map slots (position_in (length slots) forks),
    ) in
    let at = get_or-map (position_in (length slots) forks) slots p c.index.result.now (reading [] []) less
    ∙ ap (position_in (length slots) forks) (sym c.index.ensures ∙ c.in-Ends.is) in
    Contains-none c.args.byte (subst (λ x. Contains (bytes_of x) c.args.byte) at
    (subst (λ (nfa : Nfa). ReadsByte nfa p c.args.byte) (sym c.self.view_is) h))
