-- What a reader answers.
use Rattle.std.proofs.Common.{◌≡◌, ◌≢◌, ℕ, List, [], ◌∷◌, Ok, Err, Option, Some, None, refl, sym, ap, subst}
use Rattle.std.specs.Prelude.{Result}
use Rattle.std.specs.Option.{MatchOption}
use Rattle.ly_ere.specs.Definitions.{AreLightNames, AreNames, AreRefused, DefinedText}
use Rattle.ly_ere.specs.Names.{Definition}
use Rattle.ly_ere.specs.Patterns.{HasFrontSides, IsFrontPattern, IsRefused}
use Rattle.ly_ere.specs.declared.fault.EreFault.{EreFault}
use Rattle.ly_ere.specs.Faults.{ere_kind}
use Rattle.ly_ere.specs.declared.fault.EreFault.TheVariants as ere
use Rattle.ly_ere.specs.declared.fault.EreFaultKind.{EreFaultKind}
use Rattle.ly_ere.specs.declared.fault.EreFaultKind.TheVariants.{TooHeavy}
use Rattle.ly_ere.specs.declared.pattern.Rule.{Rule}
use Rattle.ly_ere.specs.Winner.{active_of}
use Rattle.ly_lexread.specs.Action.{Saying}
use Rattle.ly_lexread.specs.Conditions.{Condition}
use Rattle.ly_lexread.specs.declared.fault.LexFault.{LexFault}
use Rattle.ly_lexread.specs.declared.fault.LexFault.TheVariants.{OutOfMemory}
use Rattle.ly_lexread.specs.Definitions.{DefinedLine}
use Rattle.ly_lexread.specs.Faults.{IsTooHeavy}
use Rattle.ly_lexread.specs.LexText.{IsReadAs}
use Rattle.ly_lexread.specs.Names.{AreDefinitions, AreTextsOf, HasHeavyDefinition}
use Rattle.ly_lexread.specs.Private.Names.{AreExtents, IsPatternFault}
use Rattle.ly_lexread.specs.Rules.{ActiveBefore, AreLight, IsHeavyRule, RuleBefore, RuleLine}
use Rattle.ly_lexread.proofs.ActiveLemmas.{active_one}
use Rattle.ly_lexread.proofs.LineLemmas.{line_one}
use Rattle.ly_lexread.proofs.NameLemmas.{extents_are_texts, texts_are_extents}

module _ {T X : Type 0} (value : T → X) (Is Light : X → Type 0) (Heavy : Type 0) where
  pub answer_ok : (x : T) → Is (value x) → Light (value x) → IsReadAs value Is Light Heavy (Ok x)
  answer_ok x is light = record { ok = is; light = light; refused = tt; heavy = tt; none_light = tt }

  -- a growth was refused
  pub answer_memory : (fault : LexFault) → fault ≡ OutOfMemory → IsReadAs value Is Light Heavy (Err fault)
  answer_memory fault e = rw e (record {
    ok = tt;
    light = tt;
    refused = λ other. absurd (other refl);
    heavy = λ h. absurd h;
    none_light = λ h. absurd h;
  })

  -- the text has no value
  pub answer_fault : (fault : LexFault) → (IsTooHeavy fault → ⊥)
      → (fault ≢ OutOfMemory → (x : X) → Is x → ⊥) → IsReadAs value Is Light Heavy (Err fault)
  answer_fault fault light none = record {
    ok = tt;
    light = tt;
    refused = λ ne _. none ne;
    heavy = λ h. absurd (light h);
    none_light = λ h. absurd (light h);
  }

  -- a part of the text is refused
  pub answer_up : {U Y : Type 0} {part : U → Y} {IsPart LightPart : Y → Type 0} {HeavyPart : Type 0} (fault : LexFault)
      → IsReadAs part IsPart LightPart HeavyPart (Err fault) → (HeavyPart → Heavy)
      → ((x : X) → Is x → (y : Y) × IsPart y × (Light x → LightPart y)) → IsReadAs value Is Light Heavy (Err fault)
  answer_up fault answer up part = record {
    ok = tt;
    light = tt;
    refused = λ other light x is. let p = part x is in answer.refused other light p.0 p.1;
    heavy = λ h. up (answer.heavy h);
    none_light = λ h x is light. let p = part x is in answer.none_light h p.0 p.1 (p.2 light);
  }

-- the same values, said in another way
pub answer_as : {T X : Type 0} (value : T → X) (Is Was Light : X → Type 0) (Heavy Part : Type 0)
    (result : Result T LexFault) → ((x : X) → Was x → Is x) → ((x : X) → Is x → Was x) → (Part → Heavy)
    → IsReadAs value Was Light Part result → IsReadAs value Is Light Heavy result
answer_as value Is Was Light Heavy Part (Ok x) there back up answer
    = answer_ok value Is Light Heavy x (there (value x) answer.ok) answer.light
answer_as value Is Was Light Heavy Part (Err fault) there back up answer
    = answer_up value Is Light Heavy fault answer up (λ x is. (x, back x is, λ light. light))

-- the fault of a pattern is that of a heavy one where the pattern is heavy
heavy_pattern : (kind : Option EreFaultKind) (fault : LexFault) → IsPatternFault kind fault → IsTooHeavy fault
    → kind ≡ Some TooHeavy
heavy_pattern None fault p h = absurd p
heavy_pattern (Some kind) fault p h = ap Some (subst IsTooHeavy p.1 h)

pattern_heavy : (kind : Option EreFaultKind) (fault : LexFault) → IsPatternFault kind fault → kind ≡ Some TooHeavy
    → IsTooHeavy fault
pattern_heavy None fault p e = absurd p
pattern_heavy (Some kind) fault p e = let same : kind ≡ TooHeavy = cc e in subst IsTooHeavy (sym p.1) same

-- the pattern of a rule is refused
module _ {T : Type 0} (value : T → Rule × Saying × List ℕ) (most : ℕ) (cs : List Condition) (names : List Definition)
    (text active body end : List ℕ) (inner : EreFault) (fault : LexFault)
    (line : RuleLine cs text active body end) (memory : inner ≡ ere.OutOfMemory → fault ≡ OutOfMemory)
    (other : inner ≢ ere.OutOfMemory → IsPatternFault (ere_kind inner) fault)
    (refusal : IsRefused most names (λ s. (n : ℕ) × HasFrontSides names body s n)
    (λ p. (n : ℕ) × IsFrontPattern names body p n) inner) where
  too_heavy : IsTooHeavy fault → ere_kind inner ≡ Some TooHeavy
  too_heavy h = let given : inner ≢ ere.OutOfMemory = λ e. subst IsTooHeavy (memory e) h
      in heavy_pattern (ere_kind inner) fault (other given) h

  -- the pattern of any reading
  pattern_of : (x : Rule × Saying × List ℕ) → RuleBefore cs names text x.0 x.1 x.2
      → (n : ℕ) × IsFrontPattern names body x.0.pattern n
  pattern_of x v =
      let same = line_one text v.line.line line.line v.end end v.line.is_line line.is_line in
      let there : ActiveBefore cs line.line (active_of x.0) v.body
      = subst (λ i. ActiveBefore cs i (active_of x.0) v.body) same.0 v.line.is_active in
      let e = (active_one cs line.line (active_of x.0) active v.body body there line.is_active).1 in
      (v.taken, subst (λ i. IsFrontPattern names i x.0.pattern v.taken) e v.is_pattern)

  pub answer_pattern : IsReadAs value (λ x. RuleBefore cs names text x.0 x.1 x.2)
      (λ x. AreLight most names (x.0 ∷ [])) (IsHeavyRule most cs names text) (Err fault)
  answer_pattern = record {
    ok = tt;
    light = tt;
    refused = λ ne light x v.
        let given : inner ≢ ere.OutOfMemory = λ e. ne (memory e) in
        refusal.refused given (λ e. light (pattern_heavy (ere_kind inner) fault (other given) e)) x.0.pattern
        (pattern_of x v);
    heavy = λ h. let found = refusal.heavy (too_heavy h) in record {
      active = active;
      body = body;
      end = end;
      line = line;
      sides = found.0;
      taken = found.1.0;
      are_sides = found.1.1;
      is_heavy = found.2;
    };
    none_light = λ h x v light. refusal.none_light (too_heavy h) x.0.pattern (pattern_of x v) light.0;
  }

-- the texts of definitions are refused
module _ (most : ℕ) (ds : List DefinedLine) (list : List DefinedText) (place : ℕ) (inner : EreFault)
    (fault : LexFault) (memory : inner ≡ ere.OutOfMemory → fault ≡ OutOfMemory)
    (other : inner ≢ ere.OutOfMemory → IsPatternFault (ere_kind inner) fault)
    (refusal : AreRefused most list place inner) where
  abbrev Answer : LexFault → Type 0
  Answer f = IsReadAs {T = List Definition} (λ names. names) (AreDefinitions ds) (AreLightNames most)
      (HasHeavyDefinition most ds) (Err f)

  is_heavy : IsTooHeavy fault → ere_kind inner ≡ Some TooHeavy
  is_heavy h = let given : inner ≢ ere.OutOfMemory = λ e. subst IsTooHeavy (memory e) h
      in heavy_pattern (ere_kind inner) fault (other given) h

  answer_texts : AreExtents ds list → Answer fault
  answer_texts extents = record {
    ok = tt;
    light = tt;
    refused = λ ne light names d.
        let given : inner ≢ ere.OutOfMemory = λ e. ne (memory e) in
        refusal.refused given (λ e. light (pattern_heavy (ere_kind inner) fault (other given) e)) names
        (these names d);
    heavy = λ h. let e = is_heavy h in (
      list,
      place,
      extents_are_texts ds list extents
          (refusal.spelled e),
      refusal.heavy e,
    );
    none_light = λ h names d light. refusal.none_light (is_heavy h) names (these names d) light;
  }
    where
      these : (names : List Definition) → AreDefinitions ds names → AreNames list names
      these names d = subst (λ ts. AreNames ts names) (texts_are_extents ds list d.0 extents d.1) d.2

  answer_flawed : (result : LexFault) → ((texts : List DefinedText) → AreTextsOf ds texts → ⊥)
      → (IsTooHeavy result → ⊥) → Answer result
  answer_flawed result none light = answer_fault _ _ _ _ result light (λ _ names d. none d.0 d.1)

  pub answer_names : (flaw : Option ℕ) (result : LexFault)
      → MatchOption flaw (AreExtents ds list) (λ _. (texts : List DefinedText) → AreTextsOf ds texts → ⊥)
      → (flaw ≡ None → result ≡ fault)
      → (flaw ≢ None → IsTooHeavy result → ⊥) → Answer result
  answer_names None result cut whole light = subst Answer (sym (whole refl)) (answer_texts cut)
  answer_names (Some x) result cut whole light = answer_flawed result cut (light (λ e. absurd (cc)))
