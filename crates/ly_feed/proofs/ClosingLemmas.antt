-- What comes of a text that has ended.
use Rattle.std.proofs.Common.{◌≡◌, ◌∙◌, ◌+◌, [], Ok, Err, Result, ap, arith, length, refl, subst, sym}
use Rattle.std.specs.Prelude.{Bool, IsErrAnd, true}
use Rattle.ly_base.specs.Lexed.{Place}
use Rattle.ly_feed.proofs.OnwardLemmas.{settled_on}
use Rattle.ly_feed.proofs.SettledLemmas.{nothing_more, settled_at_end}
use Rattle.ly_feed.proofs.StopLemmas.{accepts_last, fails_last, refuses_last}
use Rattle.ly_feed.specs.Onward.{IsSettled, Onward}
use Rattle.ly_feed.specs.SyntaxError.{verdict_of}
use Rattle.ly_feed.specs.Closed.{IsClosed, progress_of}
use Rattle.ly_feed.specs.Private.Running.{IsLast, IsRunOn, end_token}
use Rattle.ly_feed.specs.ScanPart.{ScanPart}
use Rattle.ly_feed.specs.TableAnswer.{IsRest, Progress, end_at}
use Rattle.ly_feed.specs.Verdict.{Verdict, accepted, faulty, refused}
use Rattle.ly_feed.specs.declared.syntax_error.SyntaxError.{SyntaxError}
use Rattle.ly_feed.specs.declared.text_fault.TextFault.{TextFault}
use Rattle.ly_feed.specs.declared.text_fault.TextFault.TheVariants as text
use Rattle.ly_feed.specs.declared.running.Halt.{Halt}
use Rattle.ly_feed.specs.declared.running.Halt.TheVariants.{Stopped}
use Rattle.ly_feed.specs.declared.running.Ended.{Ended}
use Rattle.ly_feed.specs.declared.running.Ended.TheVariants.{Accepted, Refused}
use Rattle.ly_pack.specs.Machine.{Machine}
use Rattle.ly_parse.proofs.FedOnceLemmas.{fed_in_one_way}
use Rattle.ly_parse.specs.Expected.{AreExpected}
use Rattle.ly_parse.specs.Feeding.{Feeds, done, states_on}
use Rattle.ly_parse.specs.Feeding as fed
use Rattle.ly_parse.specs.Parse.{Parse}
use Rattle.ly_tree.specs.Forest.{Grown}

-- what is settled is said where nothing comes
pub settled_here : (ended : Bool) (p : ScanPart) (m : Machine) (w : Progress) (v : Verdict) → IsSettled ended p m w v
    → IsRest p m w v
settled_here ended p m w v settled = subst (λ x. IsRest p m x v) (nothing_more w [] refl) (settled [] (λ e. refl))

module _ (p : ScanPart) (m : Machine) (w : Progress) where
  -- something is wrong before the end
  pub closed_by : (r : Parse) (forest : Grown) (h : Halt) (syntax_error : SyntaxError) → IsRunOn true p m w r (Ok h)
      → h ≡ Stopped syntax_error → IsClosed p m w forest (Ok (Refused syntax_error))
  closed_by r forest h syntax_error run at = (
    verdict_of syntax_error,
    settled_here true p m w (verdict_of syntax_error) (subst (λ x. IsRunOn true p m w r (Ok x)) at run),
    refl,
    tt,
  )

  -- a fault that is handed on
  pub closed_fault : (r : Parse) (forest : Grown) (e : TextFault) (result : Result Ended TextFault)
      → IsRunOn true p m w r (Err e) → IsErrAnd result (λ x. x ≡ e) → IsClosed p m w forest result
  closed_fault r forest e (Ok x) run is = absurd is
  closed_fault r forest text.FaultyTables (Err x) run is = subst (λ y. IsClosed p m w forest (Err y)) (sym is)
      (settled_here true p m w faulty run)
  closed_fault r forest text.OutOfMemory (Err x) run is = subst (λ y. IsClosed p m w forest (Err y)) (sym is) tt
  closed_fault r forest text.TooLong (Err x) run is = absurd run
  closed_fault r forest text.Read (Err x) run is = absurd run
  closed_fault r forest (text.Write written) (Err x) run is = absurd run

  module _ (q : Place) (r : Parse) (on : Onward true p m w (progress_of q r)) (ends : q.rest ≡ [])
      (machine : r.machine ≡ m) where
    -- the end stands there
    end_here : end_token q.at ≡ end_at q
    end_here =
        let at : q.at ≡ q.at + length q.rest = omega (arith, ap length ends) in
        λ i. record { terminal = 0; at = at i; bytes = [] }

    fed_there : (out : fed.Fed) → Feeds r.machine (end_token q.at) r.stack out → Feeds m (end_at q) r.stack out
    fed_there out feeds = subst (λ k. Feeds k (end_at q) r.stack out) machine
        (subst (λ t. Feeds r.machine t r.stack out) end_here feeds)

    -- what is said at the end is said before the matches that lead there
    said : (v : Verdict) → IsRest p m (progress_of q r) v → IsRest p m w v
    said v here = settled_here true p m w v
        (settled_on true p m v fed_in_one_way on (settled_at_end true p m (progress_of q r) v refl here))

    pub closed : (forest : Grown) (result : Result Ended TextFault) → IsLast r q.at forest result
        → IsClosed p m w forest result
    closed forest (Ok (Accepted root)) f = (
      accepted f.0,
      said (accepted f.0)
          (accepts_last p m (progress_of q r) (end_at q) f.0 ends (fed_there (done f.0) f.1)),
      (f.0, refl, f.2),
      (f.0, f.2, f.3),
    )
    closed forest (Ok (Refused syntax_error)) f = (
      verdict_of syntax_error,
      said (verdict_of syntax_error)
          (subst (IsRest p m (progress_of q r)) (sym (f.3 ∙ ap (λ e. refused (r.count + 1) e f.0) end_here))
          (refuses_last p m (progress_of q r) (end_at q) f.0 ends (fed_there fed.refused f.1)
          (subst (λ k. AreExpected k (states_on r.stack) f.0) machine f.2))),
      refl,
      tt,
    )
    closed forest (Err text.FaultyTables) f =
        said faulty (fails_last p m (progress_of q r) (end_at q) ends (fed_there fed.faulty f))
    closed forest (Err text.OutOfMemory) f = tt
    closed forest (Err text.TooLong) f = absurd f
    closed forest (Err text.Read) f = absurd f
    closed forest (Err (text.Write written)) f = absurd f
