use Rattle.std.proofs.Common.{◌≡◌, ◌∙◌, ◌++◌, ◌∷◌, [], ap, arith, Contains, length, map, refl, subst, sym}
use Rattle.std.proofs.lemmas.List.{length-map, map_push}
use Rattle.ly_base.specs.Keys.{PutsAt}
use Rattle.ly_base.proofs.KeyLemmas.{found_put}
use Rattle.ly_join.specs.Private.Numbering.{with_one}
use Rattle.ly_join.specs.Terminals.{same_terminal, terminal_from, token}
use Rattle.ly_join.proofs.NumberingLemmas.{with_new, with_old}
use Rattle.ly_join.proofs.TableLemmas.{found_there, same_itself, same_sound, tables_token, unfound_there}
use Rattle.ly_join.proofs.terminal.Terminals.with_token.Goals as goal

pub returns-then-is_some : goal.returns-then-is_some
returns-then-is_some c = sym (with_old same_terminal same_sound same_itself c.args.self (token c.args.name.now)
    (found_there c.args.self (token c.args.name.now) c.token.result c.token.ensures
    (sym c.is_some.ensures ∙ c.if-is_some.true)))

-- the names with the new one
names : (c : goal.In_ok-push) → map terminal_from c.push.new.self.items
    ≡ map terminal_from c.self.inside.names.items ++ token c.args.name.now ∷ []
names c = ap (map terminal_from) c.in_ok-push.ensures.items
    ∙ (map_push terminal_from c.self.inside.names.items _
    ∙ ap (λ n. map terminal_from c.self.inside.names.items ++ token n ∷ []) c.in_ok-from_slice.ensures.items)

-- what a name finds
put : (c : goal.In_ok-push) → PutsAt (λ k. k.now) c.args.name.now c.in_ok-number.number
    c.self.inside.tokens.entries c.insert.new.self.entries
put c = found_put (λ k. k.now) c.self.inside.tokens c.insert.new.self c.args.name.now c.args.name.now
    c.in_ok-number.number refl c.in_ok-insert.ensures.updates

pub invariant_of-self : goal.invariant_of-self
invariant_of-self c =
    let ts = map terminal_from c.self.inside.names.items in
    let next : c.in_ok-number.number.0 ≡ length ts
    = omega (
      arith,
      c.in_ok-number.ensures.number,
      c.len.ensures,
      c.self.inside.names.ok.0,
      length-map c.self.inside.names.items terminal_from,
    ) in
    rw (names c)
    (tables_token (λ k. k.now) ts c.self.inside.tokens.entries c.self.inside.literals.items c.in_ok-number.number
    c.self.invariant next (omega (arith, next, c.in_ok-number.ensures.number, c.in_ok-number.ensures.small))
    c.insert.new.self.entries c.args.name.now (put c))

pub returns : goal.returns
returns c =
    let ts = map terminal_from c.self.inside.names.items in
    let new : Contains ts (token c.args.name.now) → ⊥
    = λ there. unfound_there c.args.self (token c.args.name.now) c.token.result c.token.ensures
    (sym c.is_some.ensures ∙ c.if-is_some.false)
    (subst (λ xs. Contains xs (token c.args.name.now)) c.self.view_is there) in
    names c ∙ (sym (with_new same_terminal same_sound same_itself ts (token c.args.name.now) new)
    ∙ ap (λ xs. with_one same_terminal xs (token c.args.name.now)) c.self.view_is)
