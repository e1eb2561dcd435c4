use Rattle.std.proofs.Common.{◌-◌, ap, arith, length, length-append, subst, sym, take}
use Rattle.std.specs.Rc.{rc_slice_items}
use Rattle.std.proofs.lemmas.Result.{err_from_is_err_and}
use Rattle.ly_base.proofs.GapLemmas.{at_none}
use Rattle.ly_lexread.specs.Private.Statements.{saying_of}
use Rattle.ly_lexread.specs.Statements.{SaysAction}
use Rattle.ly_lexread.proofs.ActiveLemmas.{active_suffix}
use Rattle.ly_lexread.proofs.AnswerLemmas.{answer_fault, answer_ok, answer_pattern}
use Rattle.ly_lexread.proofs.RuleLemmas.{action_text, active_found, no_active, rule_line, says_there}
use Rattle.ly_lexread.proofs.rules.read_rule.Goals as goal

pub returns-in_default-clause-read : goal.returns-in_default-clause-read
returns-in_default-clause-read c = rw c.fault.ensures.1 (answer_fault _ _ _ _ _ (λ h. h) (λ _ x v.
    no_active c.args.conditions.now c.args.names.now c.args.text.bytes.now c.line_bytes-line.result.now
    c.line_bytes-line.ensures.0 x.2 x.0 x.1 c.line_bytes-line.ensures.1
    (at_none c.in_ok-active.field-0 _ _ c.in_default.not-Some c.in_ok-active.ensures) v))

pub returns-in-Err-clause-read : goal.returns-in-Err-clause-read
returns-in-Err-clause-read c =
    let cs = c.args.conditions.now in
    let line = c.line_bytes-line.result.now in
    let active = active_found cs line c.in_ok-active.field-0 c.in-Some.active c.in-Some.body c.in-Some.is
    c.in_ok-active.ensures in
    answer_pattern _ c.args.limits.now.pattern_weight cs c.args.names.now c.args.text.bytes.now
    (rc_slice_items c.in-Some.active) c.in-Some.body.now c.line_bytes-line.ensures.0 c.in-Err.fault
    c.pattern_fault.result
    (rule_line cs c.args.text.bytes.now line c.line_bytes-line.ensures.0 (rc_slice_items c.in-Some.active)
    c.in-Some.body.now
    c.requires.begins c.line_bytes-line.ensures.1 active) c.pattern_fault.ensures.memory c.pattern_fault.ensures.other
    c.in-Err.ensures.refused

pub overflow_sub-line : goal.overflow_sub-line
overflow_sub-line c =
    let line = c.line_bytes-line.result.now in
    let active = active_found c.args.conditions.now line c.in_ok-active.field-0 c.in-Some.active c.in-Some.body
    c.in-Some.is c.in_ok-active.ensures in
    let p = active_suffix c.args.conditions.now line (rc_slice_items c.in-Some.active) c.in-Some.body.now active in
    omega (arith, ap length p.1, length-append p.0 c.in-Some.body.now)

pub read_action-requires : goal.read_action-requires
read_action-requires c =
    let cs = c.args.conditions.now in
    let text = c.args.text.bytes.now in
    let line = c.line_bytes-line.result.now in
    let tail = c.line_bytes-line.ensures.0 in
    let body = c.in-Some.body.now in
    let taken = c.in-Ok.front.1 in
    let active = active_found cs line c.in_ok-active.field-0 c.in-Some.active c.in-Some.body c.in-Some.is
    c.in_ok-active.ensures in
    let p = active_suffix cs line (rc_slice_items c.in-Some.active) body active in
    let at = action_text text line tail p.0 body c.split_at.result.1.now taken c.line_bytes-line.ensures.1.2 p.1
    c.in-Ok.ensures.ok.within c.split_at.ensures.back in
    at.within

pub returns-in_err-said-clause-read : goal.returns-in_err-said-clause-read
returns-in_err-said-clause-read c =
    let cs = c.args.conditions.now in
    let text = c.args.text.bytes.now in
    let line = c.line_bytes-line.result.now in
    let tail = c.line_bytes-line.ensures.0 in
    let body = c.in-Some.body.now in
    let taken = c.in-Ok.front.1 in
    let active = active_found cs line c.in_ok-active.field-0 c.in-Some.active c.in-Some.body c.in-Some.is
    c.in_ok-active.ensures in
    let p = active_suffix cs line (rc_slice_items c.in-Some.active) body active in
    let at = action_text text line tail p.0 body c.split_at.result.1.now taken c.line_bytes-line.ensures.1.2 p.1
    c.in-Ok.ensures.ok.within c.split_at.ensures.back in
    let on_line = length body - taken in
    let l = rule_line cs text line tail (rc_slice_items c.in-Some.active) body c.requires.begins
    c.line_bytes-line.ensures.1 active in
    let e = err_from_is_err_and c.from_residual-in_err-said.result c.from_residual-in_err-said.ensures.1 in
    rw (e.1, e.2) (answer_fault _ _ _ _ _ c.in_err-said.ensures.light (λ ne x v.
    let said = says_there cs c.args.names.now text (rc_slice_items c.in-Some.active) body tail x.2 taken
    c.in-Ok.front.0 x.0 x.1 l
    c.in-Ok.ensures.ok v in
    c.in_err-said.ensures.refused ne x.1 x.2
    (subst (λ i. SaysAction cs (take on_line c.split_at.result.1.now) i x.1 x.2) (sym at.ends)
    (subst (λ i. SaysAction cs i tail x.1 x.2) (sym at.on_line) said))))

pub returns-clause-read : goal.returns-clause-read
returns-clause-read c =
    let cs = c.args.conditions.now in
    let text = c.args.text.bytes.now in
    let line = c.line_bytes-line.result.now in
    let tail = c.line_bytes-line.ensures.0 in
    let body = c.in-Some.body.now in
    let taken = c.in-Ok.front.1 in
    let active = active_found cs line c.in_ok-active.field-0 c.in-Some.active c.in-Some.body c.in-Some.is
    c.in_ok-active.ensures in
    let p = active_suffix cs line (rc_slice_items c.in-Some.active) body active in
    let at = action_text text line tail p.0 body c.split_at.result.1.now taken c.line_bytes-line.ensures.1.2 p.1
    c.in-Ok.ensures.ok.within c.split_at.ensures.back in
    let on_line = length body - taken in
    let l = rule_line cs text line tail (rc_slice_items c.in-Some.active) body c.requires.begins
    c.line_bytes-line.ensures.1 active in
    let s = saying_of c.in_ok-said.said in
    let behind = c.in_ok-said.behind.bytes.now in
    answer_ok _ _ _ _ _ (record {
      body = body;
      end = tail;
      line = l;
      taken = taken;
      is_pattern = c.in-Ok.ensures.ok;
      says = (subst (λ i. SaysAction cs i tail s behind) at.on_line
          (subst (λ i. SaysAction cs (take on_line c.split_at.result.1.now) i s behind) at.ends
          c.in_ok-said.ensures.ok));
    }) (c.in-Ok.ensures.light, tt)
