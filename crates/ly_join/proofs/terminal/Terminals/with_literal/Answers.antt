use Rattle.std.proofs.Common.{◌≡◌, ◌∙◌, ◌++◌, ◌∷◌, [], ap, arith, Contains, length, map, subst, sym}
use Rattle.std.proofs.lemmas.List.{length-map, map_push}
use Rattle.ly_join.specs.Private.Numbering.{with_one}
use Rattle.ly_join.specs.Terminals.{same_terminal, terminal_from, byte}
use Rattle.ly_join.proofs.NumberingLemmas.{with_new, with_old}
use Rattle.ly_join.proofs.TableLemmas.{found_there, same_itself, same_sound, tables_byte, unfound_there}
use Rattle.ly_join.proofs.terminal.Terminals.with_literal.Goals as goal

pub returns-then-is_some : goal.returns-then-is_some
returns-then-is_some c = sym (with_old same_terminal same_sound same_itself c.args.self (byte c.args.byte)
    (found_there c.args.self (byte c.args.byte) c.literal.result c.literal.ensures
    (sym c.is_some.ensures ∙ c.if-is_some.true)))

-- the names with the new one
names : (c : goal.In_ok-push) → map terminal_from c.push.new.self.items
    ≡ map terminal_from c.self.inside.names.items ++ byte c.args.byte ∷ []
names c = ap (map terminal_from) c.in_ok-push.ensures.items ∙ map_push terminal_from c.self.inside.names.items _

pub invariant_of-self : goal.invariant_of-self
invariant_of-self c =
    let ts = map terminal_from c.self.inside.names.items in
    let next : c.in_ok-number.number.0 ≡ length ts
    = omega (
      arith,
      c.in_ok-number.ensures.number,
      c.len.ensures,
      c.self.inside.names.ok.0,
      length-map c.self.inside.names.items terminal_from,
    ) in
    rw (names c)
    (tables_byte (λ k. k.now) ts c.self.inside.tokens.entries c.self.inside.literals.items c.in_ok-number.number
    c.self.invariant next (omega (arith, next, c.in_ok-number.ensures.number, c.in_ok-number.ensures.small))
    c.args.byte (omega arith))

pub returns : goal.returns
returns c =
    let ts = map terminal_from c.self.inside.names.items in
    let new : Contains ts (byte c.args.byte) → ⊥
    = λ there. unfound_there c.args.self (byte c.args.byte) c.literal.result c.literal.ensures
    (sym c.is_some.ensures ∙ c.if-is_some.false) (subst (λ xs. Contains xs (byte c.args.byte)) c.self.view_is there) in
    names c ∙ (sym (with_new same_terminal same_sound same_itself ts (byte c.args.byte) new)
    ∙ ap (λ xs. with_one same_terminal xs (byte c.args.byte)) c.self.view_is)
