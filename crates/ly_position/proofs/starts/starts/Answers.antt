use Rattle.std.proofs.Common.{◌≡◌, ◌<◌, [], ℕ, length, map, get_or, ◌∙◌, subst, sym}
use Rattle.std.specs.Prelude.{All}
use Rattle.std.proofs.lemmas.List.{length-map}
use Rattle.std.proofs.lemmas.Result.{IfOk-weaker}
use Rattle.ly_position.specs.Private.Starts.{StartsAt}
use Rattle.ly_position.specs.Private.Targets.{AreEnteredLists}
use Rattle.ly_position.specs.Private.Program.{step_of}
use Rattle.ly_position.proofs.LinkLemmas.{forks_within, reach_list_of, targets_within}
use Rattle.ly_position.proofs.StartLemmas.{starts_all}
use Rattle.ly_position.proofs.starts.starts.Goals as goal

pub followed-requires-clause-within : goal.followed-requires-clause-within
followed-requires-clause-within c =
    let g = map step_of c.args.program.now.instructions.items in
    let many : length c.args.program.now.instructions.items ≡ length c.args.linked.now.targets.items
    = sym (c.requires.linked.targets_are.count ∙ length-map c.args.program.now.instructions.items step_of) in
    subst (λ n. All (All (λ p. p < n)) c.in_ok-roots.roots) many c.in_ok-roots.ensures.2.within

-- the roots of a list are instructions
below : (c : goal.After-drop-roots-inside-4) (k : ℕ) → k < length c.in_ok-roots.roots
    → All (λ r. r < length (map step_of c.args.program.now.instructions.items)) (get_or c.in_ok-roots.roots k [])
below c k l = subst (λ n. All (λ p. p < n) (get_or c.in_ok-roots.roots k []))
    (sym (length-map c.args.program.now.instructions.items step_of)) (c.in_ok-roots.ensures.2.within k [] l)

pub followed-requires-clause-targets : goal.followed-requires-clause-targets
followed-requires-clause-targets c =
    let linked = c.args.linked.now in
    targets_within (map step_of c.args.program.now.instructions.items) linked.targets.items linked.slots.items
    linked.forks.items c.requires.closed c.requires.linked

pub followed-requires-clause-forks : goal.followed-requires-clause-forks
followed-requires-clause-forks c =
    let linked = c.args.linked.now in
    forks_within (map step_of c.args.program.now.instructions.items) linked.targets.items linked.slots.items
    linked.forks.items c.requires.closed c.requires.linked

pub returns : goal.returns
returns c =
    let g = map step_of c.args.program.now.instructions.items in
    let linked = c.args.linked.now in
    let R = c.in_ok-roots.roots in
    let roots = c.in_ok-roots.ensures in
    IfOk-weaker c.followed.result (AreEnteredLists linked.targets.items linked.forks.items R)
    (StartsAt g c.args.rules.now c.args.program.now.entries.items c.args.conditions)
    (λ S entered. starts_all g c.args.rules.now c.args.program.now.entries.items roots.0 c.args.conditions
    (length c.args.program.now.instructions.items) R S roots.1 roots.2 entered.count
    (λ k l. reach_list_of g linked.targets.items linked.slots.items linked.forks.items c.requires.closed
    c.requires.linked (get_or R k []) (get_or S k []) (below c k l) (entered.each k l)))
    c.followed.ensures
