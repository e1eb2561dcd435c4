use Rattle.std.proofs.Common.{◌∙◌, ap, [], map, sym, take}
use Rattle.std.specs.Rc.{rc_slice_items}
use Rattle.std.specs.Str.{bytes_eq}
use Rattle.ly_yaccread.specs.File.{ruling_of}
use Rattle.ly_join.specs.Numbering.{first_appearances}
use Rattle.ly_join.specs.Private.Numbering.{with_all, with_one}
use Rattle.ly_join.proofs.ListLemmas.{twice_all, twice_more}
use Rattle.ly_join.proofs.NumberingLemmas.{all_push, first_append}
use Rattle.ly_join.proofs.TableLemmas.{bytes_itself, same_bytes}
use Rattle.ly_join.proofs.numbering.number_nonterminals.Goals as goal

pub loop-production-preserved : goal.loop-production-preserved
loop-production-preserved c =
    let production = c.production-item.result in
    let at = c.loop-production.production-index in
    let all = c.deref-production-items.result.now in
    let lefts = map (λ r. r.left) (map ruling_of all) in
    c.in_ok-nonterminals.ensures
    ∙ (ap (with_one bytes_eq c.loop-production.nonterminals) c.deref.ensures.value
    ∙ (ap (λ ns. with_one bytes_eq ns (rc_slice_items production.left)) c.loop-production.invariant
    ∙ sym (ap (with_all bytes_eq []) (twice_more (λ r. r.left) ruling_of all at production c.loop-production-test.true
    c.production-item.is) ∙ all_push bytes_eq [] (take at lefts) (rc_slice_items production.left))))

pub returns : goal.returns
returns c =
    let all = c.deref-production-items.result.now in
    let lefts = map (λ r. r.left) (map ruling_of all) in
    c.loop-production.invariant
    ∙ (ap (with_all bytes_eq []) (twice_all (λ r. r.left) ruling_of all c.loop-production.production-index
    c.loop-production-test.false)
    ∙ (sym (first_append bytes_eq same_bytes bytes_itself [] lefts)
    ∙ ap (λ rs. first_appearances bytes_eq (map (λ r. r.left) (map ruling_of rs)))
    c.deref-production-items.ensures.value))
