use Rattle.std.proofs.Common.{◌∙◌, ap, subst, sym}
use Rattle.ly_tables.specs.Private.RawValues.{raw_from}
use Rattle.ly_tables.specs.Ranges.{IsWithinVersion}
use Rattle.ly_tables.specs.RawOf.{raw_of}
use Rattle.ly_tables.proofs.SetLemmas.{set_back, set_within}
use Rattle.ly_tables.specs.Ranges.{width_of}
use Rattle.ly_tables.proofs.conversion.table_parts.Goals as goal

pub returns-clause-same : goal.returns-clause-same
returns-clause-same c = ap (raw_of (width_of c.args.version)) c.in_ok-parts_meant.ensures
    ∙ set_back c.args.version (raw_from c.args.raw) c.requires.fits c.requires.within

pub returns-clause-within : goal.returns-clause-within
returns-clause-within c = subst (IsWithinVersion c.args.version) (sym c.in_ok-parts_meant.ensures)
    (set_within c.args.version (raw_from c.args.raw) c.requires.fits c.requires.within)
