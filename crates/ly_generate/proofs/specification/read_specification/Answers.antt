use Rattle.std.proofs.Common.{refl}
use Rattle.ly_emit.proofs.ShapeLemmas.{shapes_are_within}
use Rattle.ly_join.specs.Scanning.{scanning_of}
use Rattle.ly_join.specs.declared.fault.JoinFault.TheVariants as join
use Rattle.ly_lexread.specs.declared.fault.LexFault.TheVariants as lex
use Rattle.ly_yaccread.specs.File.{written_of}
use Rattle.ly_yaccread.specs.declared.fault.YaccFault.TheVariants as yacc
use Rattle.ly_generate.specs.Accepted.{IsRefusedFor}
use Rattle.ly_generate.specs.declared.gen_fault.GenFault.TheVariants.{Join, Lex, Yacc}
use Rattle.ly_generate.specs.GenFault.{gen_of_scanner}
use Rattle.ly_generate.proofs.GenFaultLemmas.{scanner_refused, when_becomes, when_same}
use Rattle.ly_generate.proofs.specification.read_specification.Goals as goal

pub returns-in_err-file-clause-refused : goal.returns-in_err-file-clause-refused
returns-in_err-file-clause-refused c = when_becomes c.from_residual.result lex.OutOfMemory Lex c.in_err-file.field-0.0
    (IsRefusedFor c.args.limits.now c.args.lex.now c.args.yacc.now) c.from_residual.ensures.1 tt
    (λ ne. (
      ne,
      record {
        ok = tt;
        light = tt;
        refused = c.in_err-file.ensures.read.refused;
        heavy = c.in_err-file.ensures.read.heavy;
        none_light = c.in_err-file.ensures.read.none_light;
      },
      c.in_err-file.ensures.within,
    ))

pub returns-in_err-yacc-clause-refused : goal.returns-in_err-yacc-clause-refused
returns-in_err-yacc-clause-refused c = when_becomes c.from_residual-in_err-yacc.result yacc.OutOfMemory Yacc
    c.in_err-yacc.field-0.0 (IsRefusedFor c.args.limits.now c.args.lex.now c.args.yacc.now)
    c.from_residual-in_err-yacc.ensures.1 tt
    (λ ne. (c.in_err-yacc.ensures.refused ne, c.in_err-yacc.ensures.within, c.in_err-yacc.ensures.stands))

pub returns-in_err-spec-clause-refused : goal.returns-in_err-spec-clause-refused
returns-in_err-spec-clause-refused c = when_becomes c.from_residual-in_err-spec.result join.OutOfMemory Join
    c.in_err-spec.field-0.0 (IsRefusedFor c.args.limits.now c.args.lex.now c.args.yacc.now)
    c.from_residual-in_err-spec.ensures.1 tt
    (λ ne. (
      ne,
      c.in_ok-file.file,
      written_of c.in_ok-yacc.yacc,
      c.in_ok-file.ensures.read.ok,
      c.in_ok-yacc.ensures.ok,
      c.in_err-spec.ensures.fault,
    ))

pub returns-in_err-subsets-clause-refused : goal.returns-in_err-subsets-clause-refused
returns-in_err-subsets-clause-refused c = when_same c.from_residual-in_err-subsets.result
    (gen_of_scanner c.in_err-subsets.field-0.0) (IsRefusedFor c.args.limits.now c.args.lex.now c.args.yacc.now)
    c.from_residual-in_err-subsets.ensures.1
    (scanner_refused c.args.limits.now c.args.lex.now c.args.yacc.now c.in_ok-file.file c.in_err-subsets.field-0.0
    c.in_ok-file.ensures.read.ok c.in_ok-file.ensures.read.light c.in_err-subsets.ensures.refused)

pub returns-clause-says : goal.returns-clause-says
returns-clause-says c = record {
  specifies = record {
    file = c.in_ok-file.file;
    lex_text = c.in_ok-file.ensures.read.ok;
    light = c.in_ok-file.ensures.read.light;
    written = written_of c.in_ok-yacc.yacc;
    yacc_text = c.in_ok-yacc.ensures.ok;
    joined = c.in_ok-spec.ensures.ok;
    within = c.in_ok-spec.ensures.within;
    weight = c.in_ok-subsets.ensures.within;
    few = c.in_ok-subsets.ensures.few;
  };
  same_file = refl;
  scanner = c.in_ok-subsets.ensures.scanner;
  few = c.in_ok-subsets.ensures.states;
}

pub returns-clause-shapes : goal.returns-clause-shapes
returns-clause-shapes c = shapes_are_within c.args.yacc.now (scanning_of c.in_ok-file.file)
    (written_of c.in_ok-yacc.yacc) c.in_ok-spec.spec c.in_ok-yacc.ensures.ok c.in_ok-spec.ensures.ok
