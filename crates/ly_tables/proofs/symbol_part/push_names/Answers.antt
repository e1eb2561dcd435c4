use Rattle.std.proofs.Common.{◌<◌, ℕ, List, length, sym, subst, Vec, Global}
use Rattle.ly_tables.proofs.RangeLemmas.{All-item}
use Rattle.ly_tables.proofs.symbol_part.push_names.Goals as goal

pub push_string-requires : goal.push_string-requires
push_string-requires c = subst (λ (name : List ℕ). length name < 65536) (sym c.deref.ensures.value)
    (All-item (λ (name : List ℕ). length name < 65536) (λ (name : Vec ℕ Global). name.items) c.args.names.now
    c.loop-name.name-index c.name-item.result c.loop-name-test.true c.name-item.is c.requires)
