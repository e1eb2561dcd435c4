use Rattle.std.proofs.Common.{◌∙◌, ℕ, Vec, Global, refl, sym}
use Rattle.std.proofs.lemmas.Bool.{false≢true}
use Rattle.std.proofs.lemmas.List.Elements.{All-map}
use Rattle.ly_tables.specs.Ranges.{IsNameLong}
use Rattle.ly_tables.proofs.RangeLemmas.{All-unmap}
use Rattle.ly_tables.proofs.symbol_ranges.are_names_within.Goals as goal

pub returns-then-are_names_long : goal.returns-then-are_names_long
returns-then-are_names_long c =
    let items = λ (name : Vec ℕ Global). name.items in (
      λ e. (
        All-map IsNameLong items c.args.names.now (c.if-are_names_long.ensures.0 refl),
        c.begin_with_specials.ensures.0 e,
      ),
      λ r. c.begin_with_specials.ensures.1 r.1,
    )

pub returns-else-are_names_long : goal.returns-else-are_names_long
returns-else-are_names_long c = (
  λ e. absurd (false≢true (sym c.if-are_names_long.false ∙ e)),
  λ r. c.are_names_long.ensures.1 (All-unmap IsNameLong (λ (name : Vec ℕ Global). name.items) c.args.names.now r.0),
)
