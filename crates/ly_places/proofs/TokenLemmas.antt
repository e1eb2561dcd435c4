-- What tables say of tokens over a text.
use Rattle.std.proofs.Common.{◌≡◌, ◌∙◌, ◌+◌, ◌-◌, ◌<◌, ◌≤◌, ℕ, List, [], ◌∷◌, ◌++◌, Result, Ok, Err, Option, None, Some}
use Rattle.std.proofs.Common.{ap, append_assoc, arith, drop, drop-cons, get_or, inl, inr, length, map, refl, subst, suc}
use Rattle.std.proofs.Common.{sym, take}
use Rattle.std.specs.Prelude.{All, IsErrAnd, false}
use Rattle.std.proofs.lemmas.List.{length-drop, length-map, length-take-le, map-append, map_push, take-append-drop}
use Rattle.std.proofs.lemmas.List.{take_more}
use Rattle.std.proofs.lemmas.List.Elements.{All-tail}
use Rattle.ly_base.specs.Lexed.{Token, start_of}
use Rattle.ly_base.specs.declared.lexeme.End.{End}
use Rattle.ly_base.specs.declared.lexeme.End.TheVariants.{BadCut, Clean, Stuck}
use Rattle.ly_spans.specs.Spans.{span_of, IsWithin}
use Rattle.ly_spans.specs.declared.span.Span.{Span}
use Rattle.ly_feed.proofs.OneVerdictLemmas.{one_tokens}
use Rattle.ly_feed.proofs.ReadingLemmas.{reads_on}
use Rattle.ly_feed.specs.SyntaxError.{verdict_of}
use Rattle.ly_feed.specs.ScanPart.{scan_part_of}
use Rattle.ly_feed.specs.TableAnswer.{AreTokens, Comes, IsVerdict, begun, end_of, fed_with}
use Rattle.ly_feed.specs.Verdict.{Verdict, accepted, faulty, refused, unmatched}
use Rattle.ly_feed.specs.declared.syntax_error.SyntaxError.{SyntaxError}
use Rattle.ly_feed.specs.declared.running.Ended.TheVariants as ended
use Rattle.ly_feed.specs.declared.text_fault.TextFault.{TextFault}
use Rattle.ly_feed.specs.declared.text_fault.TextFault.TheVariants as faults
use Rattle.ly_pack.specs.Machine.{IsMachine, Machine}
use Rattle.ly_parse.specs.Expected.{AreExpected}
use Rattle.ly_parse.specs.Feeding.{Fed, Feeds, Level, states_on}
use Rattle.ly_parse.specs.Feeding as terms
use Rattle.ly_parse.specs.Parse.{Parse}
use Rattle.ly_parse.specs.Reading.{ReadsTokens, at_end, onward}
use Rattle.ly_places.proofs.DerivationLemmas.{all_read, kept, one_accepted, one_fault, one_refused, own}
use Rattle.ly_places.proofs.KeepingLemmas.{same_expected}
use Rattle.ly_parse.proofs.TreeFeeding.{same_states}
use Rattle.ly_parse.specs.Deriving.{levels_by}
use Rattle.ly_places.specs.Private.TokenDerived.{AreReadOver, IsDerivationOver, IsEndRead, IsTokenDerived}
use Rattle.ly_places.specs.Shapes.{keeping_machine}
use Rattle.ly_places.specs.TokenAnswer.{token_over, ComesOf, IsTokenOver, IsTokenVerdict}
use Rattle.ly_places.specs.declared.derivation.Derivation.{Derivation}
use Rattle.ly_places.specs.declared.derivation.Derived.{Derived}
use Rattle.ly_places.specs.declared.placed_token.PlacedToken.{PlacedToken}
use Rattle.ly_tables.specs.TableSet.{TableSet, machine_of}
use Rattle.ly_tree.specs.Forest.{Grown, StandsFor}
use Rattle.ly_tree.specs.declared.forest.TermRef.{TermRef}

-- where a token over a text stands
pub same_extent : (text : List ℕ) (t : PlacedToken) → IsWithin (length text) t.extent
    → span_of (token_over text t) ≡ t.extent
same_extent text t h =
    let e = t.extent in
    let forward = h.forward in
    let inside = h.inside in
    let size = length-take-le (e.end - e.start) (drop e.start text) (omega (arith, length-drop e.start text)) in
    let end : e.start + length (take (e.end - e.start) (drop e.start text)) ≡ e.end = omega (arith, size) in
    λ i. record { start = e.start; end = end i }

pub same_extents : (terminals : ℕ) (text : List ℕ) (ts : List PlacedToken)
    → All (IsTokenOver terminals (length text)) ts
    → map (λ t. t.extent) ts ≡ map span_of (map (token_over text) ts)
same_extents terminals text [] h = refl
same_extents terminals text (t ∷ ts) h =
    let first = h 0 t (omega arith) in
    let others = All-tail (IsTokenOver terminals (length text)) t ts h in
    λ i. sym (same_extent text t first.within) i ∷ same_extents terminals text ts others i

module _ (f : PlacedToken → Token ℕ) (ts : List PlacedToken) (i : ℕ) (d : PlacedToken) where
  abbrev here : PlacedToken
  here = get_or ts i d

  -- the tokens before one are read, and then this becomes of that
  abbrev pub stops_at : {m : Machine} {stack : List Level} {out : Fed} → i < length ts
      → ReadsTokens m [] (map f (take i ts)) stack → Feeds m (f here) stack out
      → ComesOf m (map f ts) (map f (take i ts)) (f here) out
  stops_at {stack = stack} inside reads feeds = record {
    behind = map f (drop (suc i) ts);
    split = ap (map f) (sym (take-append-drop i ts)
        ∙ ap (λ rest. take i ts ++ rest) (drop-cons ts i d inside))
        ∙ map-append f (take i ts) (here ∷ drop (suc i) ts);
    last = stack;
    reads = reads;
    feeds = feeds;
  }

  -- one is refused
  pub refused_at : (p : Parse) (m : Machine) (token : Token ℕ) (number : ℕ) (es : List ℕ) → i < length ts
      → p.machine ≡ m → p.count ≡ i → ReadsTokens m [] (map f (take i ts)) p.stack → token ≡ f here
      → Feeds p.machine token p.stack terms.refused → number ≡ p.count + 1
      → AreExpected p.machine (states_on p.stack) es
      → (before : List (Token ℕ)) × (t : Token ℕ) × (xs : List ℕ)
      × (c : ComesOf m (map f ts) before t terms.refused) × AreExpected m (states_on c.last) xs
      × (refused number token es ≡ refused (length before + 1) t xs)
  refused_at p m token number es inside same counted reads is feeds told listed =
      let fed = subst (λ t. Feeds m t p.stack terms.refused) is
      (subst (λ k. Feeds k token p.stack terms.refused) same feeds) in
      let size = length-map (take i ts) f ∙ length-take-le i ts (omega (arith, inside)) in
      let nth : number ≡ length (map f (take i ts)) + 1 = omega (arith, told, counted, size) in (
        map f (take i ts),
        f here,
        es,
        stops_at inside reads fed,
        subst (λ k. AreExpected k (states_on p.stack) es) same listed,
        λ j. refused (nth j) (is j) es,
      )

  -- or the tables are at fault on it
  pub fault_at : (p : Parse) (m : Machine) (token : Token ℕ) → i < length ts → p.machine ≡ m
      → ReadsTokens m [] (map f (take i ts)) p.stack → token ≡ f here → Feeds p.machine token p.stack terms.faulty
      → (before : List (Token ℕ)) × (t : Token ℕ) × ComesOf m (map f ts) before t terms.faulty
  fault_at p m token inside same reads is feeds =
      let fed = subst (λ t. Feeds m t p.stack terms.faulty) is
      (subst (λ k. Feeds k token p.stack terms.faulty) same feeds) in
      (map f (take i ts), f here, stops_at inside reads fed)

  -- or it is read
  pub read_at : (p : Parse) (m : Machine) (token : Token ℕ) (next : List Level) → i < length ts → p.machine ≡ m
      → ReadsTokens m [] (map f (take i ts)) p.stack → token ≡ f here
      → Feeds p.machine token p.stack (terms.pushed next) → ReadsTokens m [] (map f (take (i + 1) ts)) next
  read_at p m token next inside same reads is feeds =
      let fed = subst (λ t. Feeds m t p.stack (terms.pushed next)) is
      (subst (λ k. Feeds k token p.stack (terms.pushed next)) same feeds) in
      let more : map f (take (i + 1) ts) ≡ map f (take i ts) ++ f here ∷ []
      = ap (map f) (take_more ts i d inside) ∙ map_push f (take i ts) here in
      subst (λ xs. ReadsTokens m [] xs next) (sym more) (reads_on reads (onward fed at_end))

module _ (m : Machine) (is_machine : IsMachine m) where
  -- what comes of a token, by the machine that keeps bodies, comes of it by the machine itself
  pub refused_itself : {all before : List (Token ℕ)} {t : Token ℕ} (ts : List ℕ)
      → (c : ComesOf (keeping_machine m) all before t terms.refused)
      → AreExpected (keeping_machine m) (states_on c.last) ts
      → (own_c : ComesOf m all before t terms.refused) × AreExpected m (states_on own_c.last) ts
  refused_itself {before = before} ts c listed =
      let it = all_read m is_machine [] refl tt c.reads in
      let states : states_on c.last ≡ states_on (levels_by (own m is_machine) it.on) = ap states_on it.same
      ∙ (same_states (kept m is_machine) it.on ∙ sym (same_states (own m is_machine) it.on)) in (
        record {
          behind = c.behind;
          split = c.split;
          last = levels_by (own m is_machine) it.on;
          reads = it.reads;
          feeds = one_refused m is_machine it.on it.same it.fit c.feeds;
        },
        subst (λ stack. AreExpected m stack ts) states (same_expected m (states_on c.last) ts listed),
      )

  pub fault_itself : {all before : List (Token ℕ)} {t : Token ℕ}
      → ComesOf (keeping_machine m) all before t terms.faulty → ComesOf m all before t terms.faulty
  fault_itself c =
      let it = all_read m is_machine [] refl tt c.reads in
      record {
        behind = c.behind;
        split = c.split;
        last = levels_by (own m is_machine) it.on;
        reads = it.reads;
        feeds = one_fault m is_machine it.on it.same it.fit c.feeds;
      }

-- behind tokens the end stands
abbrev pub with_end : {m : Machine} {tokens before : List (Token ℕ)} {t : Token ℕ} {out : terms.Fed} (end : Token ℕ)
    → ComesOf m tokens before t out → ComesOf m (tokens ++ end ∷ []) before t out
with_end {before = before} {t = t} end c = record {
  behind = c.behind ++ end ∷ [];
  split = ap (λ ts. ts ++ end ∷ []) c.split ∙ append_assoc before (t ∷ c.behind) (end ∷ []);
  last = c.last;
  reads = c.reads;
  feeds = c.feeds;
}

-- the end comes behind all of them
abbrev pub end_comes : {m : Machine} {tokens : List (Token ℕ)} {last : List Level} {out : terms.Fed} (end : Token ℕ)
    → ReadsTokens m [] tokens last → Feeds m end last out → ComesOf m (tokens ++ end ∷ []) tokens end out
end_comes {last = last} end reads feeds
    = record { behind = []; split = refl; last = last; reads = reads; feeds = feeds }

-- where nothing is wrong with them, tokens are read
pub none_refused : (k : Machine) (tokens : List (Token ℕ)) (q : Parse) (o : Option SyntaxError)
    → ((syntax_error : SyntaxError) → o ≡ Some syntax_error → ⊥) → AreReadOver k tokens q (Ok o)
    → ReadsTokens k [] tokens q.stack × (q.count ≡ length tokens) × (q.over ≡ false)
none_refused k tokens q None not told = told
none_refused k tokens q (Some syntax_error) not told = absurd (not syntax_error refl)

-- What is said of tokens by the machine that keeps bodies is said by the set itself.
module _ (s : TableSet) (text : List ℕ) (is_machine : IsMachine (machine_of s)) (tokens : List (Token ℕ)) where
  abbrev m : Machine
  m = machine_of s

  pub syntax_error_told : (k : Machine) (q : Parse) (syntax_error : SyntaxError) → k ≡ keeping_machine m
      → AreReadOver k tokens q (Ok (Some syntax_error)) → IsTokenVerdict s text tokens (verdict_of syntax_error)
  syntax_error_told k q syntax_error same told =
      let kept_told = subst (λ x. AreReadOver x tokens q (Ok (Some syntax_error))) same told in
      let own_told = refused_itself m is_machine kept_told.2 kept_told.3 kept_told.4 in
      subst (IsTokenVerdict s text tokens) (sym kept_told.5)
      (kept_told.0, with_end (end_of text) own_told.0, refl, own_told.1)

  pub fault_told : (k : Machine) (q : Parse) → k ≡ keeping_machine m
      → AreReadOver k tokens q (Err faults.FaultyTables) → IsTokenVerdict s text tokens faulty
  fault_told k q same told =
      let kept_told = subst (λ x. AreReadOver x tokens q (Err faults.FaultyTables)) same told in
      (kept_told.0, kept_told.1, with_end (end_of text) (fault_itself m is_machine kept_told.2))

  -- what is read ends with a fault
  pub read_err_told : (k : Machine) (q : Parse) (e : TextFault) (result : Result Derived TextFault)
      → k ≡ keeping_machine m → AreReadOver k tokens q (Err e) → IsErrAnd result (λ x. x ≡ e)
      → IsTokenDerived s text tokens result
  read_err_told k q e (Ok x) same told is = absurd is
  read_err_told k q faults.FaultyTables (Err x) same told is =
      subst (λ y. IsTokenDerived s text tokens (Err y)) (sym is) (fault_told k q same told)
  read_err_told k q faults.OutOfMemory (Err x) same told is =
      subst (λ y. IsTokenDerived s text tokens (Err y)) (sym is) tt
  read_err_told k q faults.TooLong (Err x) same told is = absurd told
  read_err_told k q faults.Read (Err x) same told is = absurd told
  read_err_told k q (faults.Write written) (Err x) same told is = absurd told

  module _ (p : Parse) (reads : ReadsTokens (keeping_machine m) [] tokens p.stack)
      (machine : p.machine ≡ keeping_machine m) (counted : p.count ≡ length tokens) where
    pub end_syntax_error_told : (f : Grown) (syntax_error : SyntaxError)
        → IsEndRead p text f (Ok (ended.Refused syntax_error))
        → IsTokenVerdict s text tokens (verdict_of syntax_error)
    end_syntax_error_told f syntax_error told =
        let fed = subst (λ k. Feeds k (end_of text) p.stack terms.refused) machine told.1 in
        let listed = subst (λ k. AreExpected k (states_on p.stack) told.0) machine told.2 in
        let own_told = refused_itself m is_machine told.0 (end_comes (end_of text) reads fed) listed in
        let nth : p.count + 1 ≡ length tokens + 1 = omega (arith, counted) in
        subst (IsTokenVerdict s text tokens) (sym told.3) (tokens, own_told.0, nth, own_told.1)

    pub end_fault_told : (f : Grown) → IsEndRead p text f (Err faults.FaultyTables)
        → IsTokenVerdict s text tokens faulty
    end_fault_told f told =
        let fed = subst (λ k. Feeds k (end_of text) p.stack terms.faulty) machine told in
        (tokens, end_of text, fault_itself m is_machine (end_comes (end_of text) reads fed))

    pub end_err_told : (f : Grown) (e : TextFault) (result : Result Derived TextFault) → IsEndRead p text f (Err e)
        → IsErrAnd result (λ x. x ≡ e) → IsTokenDerived s text tokens result
    end_err_told f e (Ok x) told is = absurd is
    end_err_told f faults.FaultyTables (Err x) told is =
        subst (λ y. IsTokenDerived s text tokens (Err y)) (sym is) (end_fault_told f told)
    end_err_told f faults.OutOfMemory (Err x) told is =
        subst (λ y. IsTokenDerived s text tokens (Err y)) (sym is) tt
    end_err_told f faults.TooLong (Err x) told is = absurd told
    end_err_told f faults.Read (Err x) told is = absurd told
    end_err_told f (faults.Write written) (Err x) told is = absurd told

    pub end_derived : (f : Grown) (root : TermRef) (x : Derivation) (extents : List Span)
        → IsEndRead p text f (Ok (ended.Accepted root)) → x.forest ≡ f → x.root ≡ root → x.tokens.items ≡ extents
        → extents ≡ map span_of tokens → IsDerivationOver s text tokens x
    end_derived f root x extents told same_forest same_root listed are =
        let fed = subst (λ k. Feeds k (end_of text) p.stack (terms.done told.0)) machine told.1 in
        let it = all_read m is_machine [] refl tt reads in
        let top = one_accepted m is_machine it.on it.same it.fit fed in
        record {
          before = top.on_top.before;
          tree = top.tree;
          derives = record { last = it.on; reads = it.itself; accepts = top.itself };
          yields = sym it.yields ∙ top.on_top.yields;
          fits = top.on_top.fits;
          says = (levels_by (own m is_machine) it.on, it.reads, top.feeds);
          extents = listed ∙ are;
          root = subst (StandsFor x.forest x.root) top.same (subst (λ g. StandsFor g x.root told.0) (sym same_forest)
              (subst (λ r. StandsFor f r told.0) (sym same_root) told.2));
        }

-- Of its tokens the same is said as of a text.
module _ (s : TableSet) (text : List ℕ) (tokens : List (Token ℕ))
    (are : AreTokens (scan_part_of s) (start_of text) tokens Clean) where
  of_text : (v : Verdict) → IsTokenVerdict s text tokens v → IsVerdict s text v
  of_text (accepted d) said = (
    record { tokens = tokens; are_tokens = are; last = said.0; reads = said.1 },
    said.2,
  )
  of_text (refused k t ts) said = (
    said.0,
    record {
      tokens = tokens;
      e = Clean;
      are_tokens = are;
      behind = said.1.behind;
      split = said.1.split;
      last = said.1.last;
      reads = said.1.reads;
      feeds = said.1.feeds;
    },
    omega (arith, said.2),
    said.3,
  )
  of_text (unmatched byte) said = absurd said
  of_text faulty said = inl (
    said.0,
    said.1,
    record {
      tokens = tokens;
      e = Clean;
      are_tokens = are;
      behind = said.2.behind;
      split = said.2.split;
      last = said.2.last;
      reads = said.2.reads;
      feeds = said.2.feeds;
    },
  )

  same_tokens : (us : List (Token ℕ)) (e : End) → AreTokens (scan_part_of s) (start_of text) us e
      → (us ≡ tokens) × (e ≡ Clean)
  same_tokens us e there = one_tokens (scan_part_of s) (start_of text) us tokens e Clean there are

  all_same : (us : List (Token ℕ)) (e : End) → AreTokens (scan_part_of s) (start_of text) us e
      → tokens ++ end_of text ∷ [] ≡ fed_with (end_of text) us e
  all_same us e there =
      let same = same_tokens us e there in λ i. fed_with (end_of text) (sym same.0 i) (sym same.1 i)

  abbrev comes_of : {before : List (Token ℕ)} {t : Token ℕ} {out : Fed}
      → Comes (scan_part_of s) (machine_of s) (begun text) (end_of text) before t out
      → ComesOf (machine_of s) (tokens ++ end_of text ∷ []) before t out
  comes_of c = record {
    behind = c.behind;
    split = all_same c.tokens c.e c.are_tokens ∙ c.split;
    last = c.last;
    reads = c.reads;
    feeds = c.feeds;
  }

  of_tokens : (v : Verdict) → IsVerdict s text v → IsTokenVerdict s text tokens v
  of_tokens (accepted d) said =
      let same = same_tokens said.0.tokens Clean said.0.are_tokens in (
        said.0.last,
        subst (λ us. ReadsTokens (machine_of s) [] us said.0.last) same.0 said.0.reads,
        said.1,
      )
  of_tokens (refused k t ts) said = (said.0, comes_of said.1, omega (arith, said.2), said.3)
  of_tokens (unmatched byte) said =
      let same = same_tokens said.tokens (Stuck byte) said.are_tokens in
      let off : Stuck byte ≡ Clean = same.1 in absurd (let no : ⊥ = cc in no)
  of_tokens faulty (inl said) = (said.0, said.1, comes_of said.2)
  of_tokens faulty (inr (byte, r)) =
      let same = same_tokens r.tokens (BadCut byte) r.are_tokens in
      let off : BadCut byte ≡ Clean = same.1 in absurd (let no : ⊥ = cc in no)

pub says_the_same : (s : TableSet) (text : List ℕ) (tokens : List (Token ℕ)) (v : Verdict)
    → AreTokens (scan_part_of s) (start_of text) tokens Clean
    → (IsTokenVerdict s text tokens v → IsVerdict s text v) × (IsVerdict s text v → IsTokenVerdict s text tokens v)
says_the_same s text tokens v are = (of_text s text tokens are v, of_tokens s text tokens are v)
