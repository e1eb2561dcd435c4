use Rattle.std.proofs.Common.{◌≡◌, ◌∙◌, ◌+◌, ◌++◌, ap, arith, Contains, map, subst, sym, take, drop}
use Rattle.std.proofs.lemmas.List.{append-nil, with_items_is}
use Rattle.std.proofs.lemmas.Result.{err_from_is_err_and}
use Rattle.ly_base.proofs.MemberLemmas.{Contains-flat_map}
use Rattle.ly_yaccread.specs.File.{declared_of}
use Rattle.ly_join.specs.Numbering.{declared_terminals}
use Rattle.ly_join.specs.Precedences.{given, given_by, given_from}
use Rattle.ly_join.specs.Private.Rules.{AreGiven, IsGivingFault}
use Rattle.ly_join.specs.Private.Tables.{terminal_of}
use Rattle.ly_join.specs.declared.precedence.Precedence.{Precedence}
use Rattle.ly_join.proofs.CountLemmas.{declared_words}
use Rattle.ly_join.proofs.GivenLemmas.{given_beyond, given_nothing, given_symbols, given_up_to, giving_more}
use Rattle.ly_join.proofs.ListLemmas.{mapped_in, read_in}
use Rattle.ly_join.proofs.rank.precedences.Goals as goal
use Rattle.ly_join.proofs.rank.precedences.Goals.{in-Some+in_ok-give, in_default}

pub give-requires-clause-all : goal.give-requires-clause-all
give-requires-clause-all c = λ x there.
    let ds = c.args.declarations.now in
    let d = c.index-declarations-level.result in
    c.requires.all x (Contains-flat_map declared_terminals (map declared_of ds) (declared_of d) x
    (mapped_in declared_of ds d (read_in ds c.loop-level.level d c.loop-level-test.true c.index-declarations-level.is))
    (subst (λ xs. Contains xs x) (ap (map terminal_of) c.deref.ensures.value ∙ sym (declared_words d.symbols.items))
    there))

pub returns-in_err-give-clause-fault : goal.returns-in_err-give-clause-fault
returns-in_err-give-clause-fault c =
    let p = err_from_is_err_and c.from_residual-in_err-give.result c.from_residual-in_err-give.ensures.1 in
    let ds = c.args.declarations.now in
    let d = c.index-declarations-level.result in
    let level = c.loop-level.level in
    let before = given (take level (map declared_of ds)) in
    let kind = sym c.associativity_of.ensures ∙ c.in-Some.is in
    let fault : IsGivingFault (before ++ given_by level (declared_of d)) c.in_err-give.field-0.0
    = subst (λ xs. IsGivingFault (before ++ xs) c.in_err-give.field-0.0)
    (ap (map (λ s. let q : Precedence = record { level = level; associativity = c.in-Some.associativity } in
    (terminal_of s, q))) c.deref.ensures.value ∙ sym (given_symbols level d c.in-Some.associativity kind))
    (c.in_err-give.ensures.fault before (subst (AreGiven before c.args.terminals.now) (sym c.deref_mut.ensures.value)
    c.loop-level.invariant)) in
    rw (p.1, p.2) (subst (λ xs. IsGivingFault xs c.in_err-give.field-0.0)
    (sym (given_beyond ds level d c.loop-level-test.true c.index-declarations-level.is))
    (giving_more (before ++ given_by level (declared_of d))
    (given_from (level + 1) (drop (level + 1) (map declared_of ds))) c.in_err-give.field-0.0 fault))

pub loop-level-preserved : goal.loop-level-preserved
loop-level-preserved c = elim c.match-associativity_of.branch [
  | in-Some+in_ok-give w ↦
      let ds = c.args.declarations.now in
      let d = c.index-declarations-level.result in
      let level = c.loop-level.level in
      let before = given (take level (map declared_of ds)) in
      let kind = sym c.associativity_of.ensures ∙ w.in-Some.is in
      let more : AreGiven (before ++ given_by level (declared_of d)) c.args.terminals.now w.give.new.given
      = subst (λ xs. AreGiven (before ++ xs) c.args.terminals.now w.give.new.given)
      (ap (map (λ s. let q : Precedence = record { level = level; associativity = w.in-Some.associativity } in
      (terminal_of s, q))) w.deref.ensures.value ∙ sym (given_symbols level d w.in-Some.associativity kind))
      (w.in_ok-give.ensures.ok before (subst (AreGiven before c.args.terminals.now) (sym w.deref_mut.ensures.value)
      c.loop-level.invariant)) in
      let items : c.match-associativity_of.given.items ≡ w.give.new.given
      = ap (λ v. v.items) w.given-is ∙ with_items_is c.loop-level.given w.give.new.given
      (omega (arith, more.long, c.loop-level.invariant.long, c.loop-level.given.ok.0)) in
      rw (items, given_up_to ds level d c.loop-level-test.true c.index-declarations-level.is) more
  | in_default w ↦
      let ds = c.args.declarations.now in
      let d = c.index-declarations-level.result in
      let level = c.loop-level.level in
      let before = given (take level (map declared_of ds)) in
      let kind = sym c.associativity_of.ensures ∙ w.in_default.is in
      rw (w.given-is, given_up_to ds level d c.loop-level-test.true c.index-declarations-level.is)
      (subst (λ xs. AreGiven xs c.args.terminals.now c.loop-level.given.items)
      (sym (ap (λ xs. before ++ xs) (given_nothing level (declared_of d) kind) ∙ append-nil before))
      c.loop-level.invariant)
]
