-- Lemmas on text on its way to a writer.
use Rattle.std.proofs.Common.{◌≡◌, ◌∙◌, ℕ, ◌<◌, ◌≤◌, ◌+◌, List, [], ◌++◌, length, take, Option, Result, Ok, Err}
use Rattle.std.proofs.Common.{MatchResult, OnOk, IfErr, IsErrAnd, ap, ap₂, arith, append_assoc, append-nil, le_of_lt}
use Rattle.std.proofs.Common.{None, Some, refl, subst, sym}
use Rattle.std.proofs.Common.{take-append-drop, length-append, length-drop, take-add}
use Rattle.std.proofs.Math.Seq.{take-length}
use Rattle.std.proofs.lemmas.List.{take-append-le, drop-append-le, drop_all}
use Rattle.std.specs.Io.KnownBytes.{Appends}
use Rattle.ly_print.specs.declared.whole.WriteFault.{WriteFault}
use Rattle.ly_print.specs.TextWriter.{IsAppended, IsCutShort, IsUnderway, Outgoing}
use Rattle.ly_print.proofs.DeviceLemmas.{appends_twice}

-- what is cut short still is when the text goes on
pub cut_more : (b n : Option (List ℕ)) (k : ℕ) (text more : List ℕ) → IsCutShort b n k text
    → IsCutShort b n k (text ++ more)
cut_more b n k text more cut =
    let within : k < length text = cut.within in record {
      within = omega (arith, length-append text more);
      went_out = subst (Appends b n) (sym (take-append-le k text more (le_of_lt within))) cut.went_out;
    }

-- bytes come that are held back
held_more : (b n : Option (List ℕ)) (o : Outgoing) (text bytes : List ℕ) → IsUnderway b n o text
    → IsUnderway b n (record { sent = o.sent; held = o.held ++ bytes }) (text ++ bytes)
held_more b n o text bytes u =
    let within : o.sent ≤ length text = u.within in record {
      within = omega (arith, length-append text bytes);
      went_out = subst (Appends b n) (sym (take-append-le o.sent text bytes within)) u.went_out;
      held_back = drop-append-le o.sent text bytes within ∙ ap (λ t. t ++ bytes) u.held_back;
    }

-- how much of the text went out or is held back: all
pub all_there : (b n : Option (List ℕ)) (o : Outgoing) (text : List ℕ) → IsUnderway b n o text
    → o.sent + length o.held ≡ length text
all_there b n o text u =
    let within : o.sent ≤ length text = u.within in
    omega (arith, length-drop o.sent text, ap length u.held_back)

-- the beginning that went out goes on with what was held back
more_out : (b n m : Option (List ℕ)) (o : Outgoing) (k : ℕ) (text : List ℕ) → IsUnderway b n o text
    → Appends n m (take k o.held) → Appends b m (take (o.sent + k) text)
more_out b n m o k text u gone =
    subst (Appends b m) (sym (take-add o.sent k text ∙ ap (λ t. take o.sent text ++ take k t) u.held_back))
    (appends_twice b n m _ _ u.went_out gone)

-- what `send` says of bytes of which only a part went out
abbrev pub WentInPart : Option (List ℕ) → Option (List ℕ) → ℕ → List ℕ → ℕ → Type 0
WentInPart n m sent bytes written = (more : ℕ) × (written ≡ sent + more) × (more < length bytes)
    × Appends n m (take more bytes)

-- all that was held back goes out
held_gone : (b n m : Option (List ℕ)) (o : Outgoing) (sent : ℕ) (text : List ℕ) → IsUnderway b n o text
    → Appends n m o.held → sent ≡ o.sent + length o.held → IsUnderway b m (record { sent = sent; held = [] }) text
held_gone b n m o sent text u gone is =
    let all : o.sent + length o.held ≡ length text = all_there b n o text u in record {
      within = omega arith;
      went_out = subst (λ k. Appends b m (take k text)) (sym is) (more_out b n m o (length o.held) text u
          (subst (Appends n m) (sym (take-length o.held)) gone));
      held_back = drop_all sent text (omega arith);
    }

-- only a part of what was held back goes out
held_cut : (b n m : Option (List ℕ)) (o : Outgoing) (written : ℕ) (text : List ℕ) → IsUnderway b n o text
    → WentInPart n m o.sent o.held written → IsCutShort b m written text
held_cut b n m o written text u part =
    let all : o.sent + length o.held ≡ length text = all_there b n o text u in
    let is : written ≡ o.sent + part.0 = part.1 in
    let less : part.0 < length o.held = part.2 in record {
      within = omega arith;
      went_out = subst (λ k. Appends b m (take k text)) (sym is) (more_out b n m o part.0 text u part.3);
    }

-- what was held back goes out, and the bytes go out at once, or the writer fails at them
all_behind : (o : Outgoing) (n n' n'' : Option (List ℕ)) (sent sent' : ℕ) (bytes : List ℕ)
    (r : Result (Unit {0}) WriteFault) → Appends n n' o.held → sent ≡ o.sent + length o.held
    → OnOk r (Appends n' n'' bytes) → OnOk r (sent' ≡ sent + length bytes)
    → IfErr r (λ fault. WentInPart n' n'' sent bytes fault.written)
    → IsAppended o (record { sent = sent'; held = [] }) n n'' bytes r
all_behind o n n' n'' sent sent' bytes (Ok x) gone counted more counted' part = λ b text u.
    held_gone b n' n'' (record { sent = sent; held = bytes }) sent' (text ++ bytes)
    (held_more b n' (record { sent = sent; held = [] }) text bytes (held_gone b n n' o sent text u gone counted))
    more counted'
all_behind o n n' n'' sent sent' bytes (Err fault) gone counted more counted' part = λ b text u.
    held_cut b n' n'' (record { sent = sent; held = bytes }) fault.written (text ++ bytes)
    (held_more b n' (record { sent = sent; held = [] }) text bytes (held_gone b n n' o sent text u gone counted)) part

-- what was held back goes out, and the bytes are held back
all_held : (o : Outgoing) (n n' : Option (List ℕ)) (sent : ℕ) (bytes : List ℕ) → Appends n n' o.held
    → sent ≡ o.sent + length o.held → IsAppended o (record { sent = sent; held = bytes }) n n' bytes (Ok tt)
all_held o n n' sent bytes gone counted = λ b text u.
    held_more b n' (record { sent = sent; held = [] }) text bytes (held_gone b n n' o sent text u gone counted)

-- all that was held back goes out at last, or the writer fails
all_last : (b n m : Option (List ℕ)) (o : Outgoing) (text : List ℕ) (r : Result (Unit {0}) WriteFault)
    → IsUnderway b n o text → OnOk r (Appends n m o.held)
    → IfErr r (λ fault. WentInPart n m o.sent o.held fault.written)
    → MatchResult r (λ _. Appends b m text) (λ fault. IsCutShort b m fault.written text)
all_last b n m o text (Ok x) u gone part = subst (Appends b m)
    (ap (λ t. take o.sent text ++ t) (sym u.held_back) ∙ take-append-drop o.sent text)
    (appends_twice b n m _ _ u.went_out gone)
all_last b n m o text (Err fault) u gone part = held_cut b n m o fault.written text u part

module _ (o : Outgoing) (sent : ℕ) (held : List ℕ) (same_sent : sent ≡ o.sent) (same_held : held ≡ o.held) where
  same : record { sent = sent; held = held } ≡ o
  same = ap₂ outgoing same_sent same_held
    where
      outgoing : ℕ → List ℕ → Outgoing
      outgoing s h = record { sent = s; held = h }

  -- what was held back goes out, and the bytes go out at once, or the writer fails at them
  pub goes_behind : (n n' n'' : Option (List ℕ)) (sent' sent'' : ℕ) (bytes : List ℕ)
      (r : Result (Unit {0}) WriteFault) → Appends n n' held → sent' ≡ sent + length held
      → OnOk r (Appends n' n'' bytes) → OnOk r (sent'' ≡ sent' + length bytes)
      → IfErr r (λ fault. WentInPart n' n'' sent' bytes fault.written)
      → IsAppended o (record { sent = sent''; held = [] }) n n'' bytes r
  goes_behind n n' n'' sent' sent'' bytes r gone counted more counted' part =
      subst (λ o. IsAppended o (record { sent = sent''; held = [] }) n n'' bytes r) same
      (all_behind (record { sent = sent; held = held }) n n' n'' sent' sent'' bytes r gone counted more counted' part)

  -- what was held back goes out, and the bytes are held back
  pub held_behind : (n n' : Option (List ℕ)) (sent' : ℕ) (held' bytes : List ℕ) → Appends n n' held
      → sent' ≡ sent + length held → held' ≡ bytes
      → IsAppended o (record { sent = sent'; held = held' }) n n' bytes (Ok tt)
  held_behind n n' sent' held' bytes gone counted is =
      subst (λ h. IsAppended o (record { sent = sent'; held = h }) n n' bytes (Ok tt)) (sym is)
      (subst (λ o. IsAppended o (record { sent = sent'; held = bytes }) n n' bytes (Ok tt)) same
      (all_held (record { sent = sent; held = held }) n n' sent' bytes gone counted))

  -- the writer fails at what was held back, before the bytes
  pub fails_behind : (o' : Outgoing) (n n' : Option (List ℕ)) (bytes : List ℕ) (fault : WriteFault)
      → WentInPart n n' sent held fault.written → IsAppended o o' n n' bytes (Err fault)
  fails_behind o' n n' bytes fault part =
      subst (λ o. IsAppended o o' n n' bytes (Err fault)) same
      (λ b text u. cut_more b n' fault.written text bytes (held_cut b n n' _ fault.written text u part))

  -- all that was held back goes out at last, or the writer fails
  pub goes_last : (n m : Option (List ℕ)) (r : Result (Unit {0}) WriteFault) → OnOk r (Appends n m held)
      → IfErr r (λ fault. WentInPart n m sent held fault.written) → (b : Option (List ℕ)) (text : List ℕ)
      → IsUnderway b n o text → MatchResult r (λ _. Appends b m text) (λ fault. IsCutShort b m fault.written text)
  goes_last n m r gone part = λ b text u. all_last b n m (record { sent = sent; held = held }) text r
      (subst (λ o. IsUnderway b n o text) (sym same) u) gone part

-- bytes come, and then others
pub appended_twice : (o o' o'' : Outgoing) (n n' n'' : Option (List ℕ)) (xs ys : List ℕ) (x : Unit {0})
    (r : Result (Unit {0}) WriteFault) → IsAppended o o' n n' xs (Ok x) → IsAppended o' o'' n' n'' ys r
    → IsAppended o o'' n n'' (xs ++ ys) r
appended_twice o o' o'' n n' n'' xs ys x (Ok y) h k = λ b text u.
    subst (IsUnderway b n'' o'') (append_assoc text xs ys) (k b (text ++ xs) (h b text u))
appended_twice o o' o'' n n' n'' xs ys x (Err fault) h k = λ b text u.
    subst (IsCutShort b n'' fault.written) (append_assoc text xs ys) (k b (text ++ xs) (h b text u))

-- the same bytes, written otherwise
pub same_bytes : (o o' : Outgoing) (n n' : Option (List ℕ)) (xs ys : List ℕ) (r : Result (Unit {0}) WriteFault)
    → xs ≡ ys → IsAppended o o' n n' xs r → IsAppended o o' n n' ys r
same_bytes o o' n n' xs ys r is h = subst (λ t. IsAppended o o' n n' t r) is h

-- the `?` passes the fault on
pub passed_on : (o o' o'' : Outgoing) (n n' : Option (List ℕ)) (xs : List ℕ) (r : Result (Unit {0}) WriteFault)
    (fault : WriteFault) → IsErrAnd r (λ e. e ≡ fault) → IsAppended o o' n n' xs (Err fault)
    → IsAppended o o'' n n' xs r
passed_on o o' o'' n n' xs (Ok x) fault e h = absurd e
passed_on o o' o'' n n' xs (Err f) fault e h = subst (λ f. IsAppended o o'' n n' xs (Err f)) (sym e) h

-- the writer failed before all bytes had come
pub failed_before : (o o' o'' : Outgoing) (n n' : Option (List ℕ)) (xs ys whole : List ℕ)
    (r : Result (Unit {0}) WriteFault) (fault : WriteFault) → xs ++ ys ≡ whole → IsErrAnd r (λ e. e ≡ fault)
    → IsAppended o o' n n' xs (Err fault) → IsAppended o o'' n n' whole r
failed_before o o' o'' n n' xs ys whole r fault is e h = passed_on o o' o'' n n' whole r fault e
    (λ b text u. subst (IsCutShort b n' fault.written) (append_assoc text xs ys ∙ ap (λ t. text ++ t) is)
    (cut_more b n' fault.written (text ++ xs) ys (h b text u)))

-- nothing is on its way yet
pub nothing_yet : (c : Option (List ℕ)) → IsUnderway c c (record { sent = 0; held = [] }) []
nothing_yet None = record { within = omega arith; went_out = tt; held_back = refl }
nothing_yet (Some bytes) = record { within = omega arith; went_out = sym (append-nil bytes); held_back = refl }

module _ (o o' : Outgoing) (before now : Option (List ℕ)) (text : List ℕ) (none : o ≡ record { sent = 0; held = [] })
  where
    -- all that has come is on its way
    pub underway_from : IsAppended o o' before now text (Ok tt) → IsUnderway before now o' text
    underway_from come
        = subst (λ (x : Outgoing). IsAppended x o' before now text (Ok tt)) none come before [] (nothing_yet before)

    -- the writer failed: only a beginning of it went out
    pub cut_from : (fault : WriteFault) → IsAppended o o' before now text (Err fault)
        → IsCutShort before now fault.written text
    cut_from fault come
        = subst (λ (x : Outgoing). IsAppended x o' before now text (Err fault)) none come before []
        (nothing_yet before)

-- the `?` passes a fault on
pub err_is : {T : Type 0} (r : Result T WriteFault) (f : WriteFault) (P : WriteFault → Type 0)
    → IsErrAnd r (λ e. e ≡ f) → P f → IfErr r P
err_is (Ok x) f P h p = tt
err_is (Err e) f P h p = subst P (sym h) p
