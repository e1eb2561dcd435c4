-- What is left to print, as the code takes it apart.
use Rattle.std.proofs.Common.{◌≡◌, ℕ, ◌<◌, ◌≤◌, ◌+◌, List, [], ◌∷◌, ◌++◌, length, arith, Option, Result, Ok, Err}
use Rattle.std.proofs.Common.{refl, sym, ap, ◌∙◌, subst, append_assoc, append-nil, length-append, IsErrAnd, Some, None}
use Rattle.std.specs.Prelude.{All, IfErr, IfOk, MatchResult, OnOk, codes, unwrap_or}
use Rattle.std.specs.Borrow.{Bor}
use Rattle.std.proofs.lemmas.List.Elements.{All-push}
use Rattle.std.proofs.Math.ListN.{get_or-append}
use Rattle.std.proofs.Math.Seq.{get_or-append_seam}
use Rattle.ly_print.proofs.TextWriterLemmas.{all_there, appended_twice, cut_from, cut_more, underway_from}
use Rattle.ly_base.specs.Bytes.{newline}
use Rattle.ly_print.specs.TextWriter.{IsAppended, IsCutShort, IsUnderway, Outgoing, bytes_of}
use Rattle.ly_print.specs.declared.whole.WriteFault.{WriteFault}
use Rattle.ly_tree.proofs.CostLemmas.{each_in_cost}
use Rattle.ly_tree.proofs.StandLemmas.{known_front, known_rest}
use Rattle.ly_tree.specs.Costs.{cost}
use Rattle.ly_tree.specs.Forest.{terms_of, Grown, StandsFor}
use Rattle.ly_tree.specs.Private.Grown.{AllKnown}
use Rattle.ly_tree.specs.Private.Printing.{all_left_of, begun, left_of, left_text, next_text, opening, tail_text}
use Rattle.ly_tree.specs.Private.Printing.{terms_left}
use Rattle.ly_tree.specs.Private.Printing.{term_at, term_text, waiting_text, AllWaitingKnown, HasChildren, IsAlone}
use Rattle.ly_tree.specs.Private.Printing.{IsOpen, IsPrinted}
use Rattle.ly_tree.specs.Term.{Term, nothing, leaf, built}
use Rattle.ly_tree.specs.Written.{written, written_all, Notation}
use Rattle.ly_tree.specs.declared.forest.TermRef.{TermRef}

-- the last node's end comes first
waiting_text-push : (v : Notation) (f : Grown) (rest : List (Bor (List TermRef))) (ns : Bor (List TermRef))
    → waiting_text v f (rest ++ ns ∷ []) ≡ tail_text v f ns.now ++ waiting_text v f rest
waiting_text-push v f [] ns = sym (append-nil (tail_text v f ns.now))
waiting_text-push v f (ms ∷ rest) ns = ap (λ t. t ++ tail_text v f ms.now) (waiting_text-push v f rest ns)
    ∙ append_assoc (tail_text v f ns.now) (waiting_text v f rest) (tail_text v f ms.now)

-- the terms of a node, and its end
written_all-tail : (v : Notation) (f : Grown) (n : TermRef) (ns : List TermRef)
    → written_all v (terms_of f (n ∷ ns)) ++ v.closes ≡ term_text v f n ++ tail_text v f ns
written_all-tail v f n [] = refl
written_all-tail v f n (m ∷ ns) =
    append_assoc (term_text v f n ++ codes ",") (written_all v (terms_of f (m ∷ ns))) (v.closes)
    ∙ (ap (λ t. (term_text v f n ++ codes ",") ++ t) (written_all-tail v f m ns)
    ∙ (append_assoc (term_text v f n) (codes ",") (term_text v f m ++ tail_text v f ns)
    ∙ ap (λ t. term_text v f n ++ t) (sym (append_assoc (codes ",") (term_text v f m) (tail_text v f ns)))))

-- one node more is begun
begun-push : (ws : List (Bor (List TermRef))) (os cs : Bor (List TermRef))
    → begun (ws ++ os ∷ []) cs ≡ begun ws os ++ cs ∷ []
begun-push [] os cs = refl
begun-push (beside ∷ outer) os cs = refl

-- its end comes before what is left behind it
left_text-push : (v : Notation) (f : Grown) (ws : List (Bor (List TermRef))) (os cs : Bor (List TermRef))
    → left_text v f (ws ++ os ∷ []) cs ≡ tail_text v f cs.now ++ left_text v f ws os
left_text-push v f ws os cs = ap (waiting_text v f) (begun-push ws os cs) ∙ waiting_text-push v f (begun ws os) cs

-- a child is left: a comma, and it is next
pub sibling_text : (v : Notation) (f : Grown) (ws : List (Bor (List TermRef))) (os rest : Bor (List TermRef))
    (n : TermRef) → IsAlone ws os → os.now ≡ n ∷ rest.now
    → codes "," ++ (term_text v f n ++ left_text v f ws rest) ≡ left_text v f ws os
sibling_text v f [] os rest n alone is = absurd (let both : [] ≡ n ∷ rest.now = sym alone ∙ is in cc)
sibling_text v f (beside ∷ outer) os rest n alone is =
    rw (waiting_text-push v f outer rest, waiting_text-push v f outer os, is) (simp append_assoc)

-- no child is left: the node ends
pub end_text : (v : Notation) (f : Grown) (before ws : List (Bor (List TermRef))) (os outer : Bor (List TermRef))
    → before ≡ ws ++ outer ∷ [] → os.now ≡ [] → v.closes ++ left_text v f ws outer ≡ left_text v f before os
end_text v f before ws os outer is none =
    sym (ap (λ b. left_text v f b os) is ∙ (left_text-push v f ws outer os
    ∙ ap (λ ns. tail_text v f ns ++ left_text v f ws outer) none))

pub alone_inside : (before ws : List (Bor (List TermRef))) (os outer : Bor (List TermRef)) → before ≡ ws ++ outer ∷ []
    → IsAlone before os → IsAlone ws outer
alone_inside before [] os outer is alone = subst (λ b. IsAlone b os) is alone
alone_inside before (beside ∷ rest) os outer is alone = subst (λ b. IsAlone b os) is alone

pub alone_around : (ws : List (Bor (List TermRef))) (os cs : Bor (List TermRef)) → IsAlone ws os
    → IsAlone (ws ++ os ∷ []) cs
alone_around [] os cs alone = alone
alone_around (beside ∷ rest) os cs alone = alone

pub alone_still : (ws : List (Bor (List TermRef))) (os rest : Bor (List TermRef)) (n : TermRef) → IsAlone ws os
    → os.now ≡ n ∷ rest.now → IsAlone ws rest
alone_still [] os rest n alone is = absurd (let both : [] ≡ n ∷ rest.now = sym alone ∙ is in cc)
alone_still (beside ∷ outer) os rest n alone is = alone

all_front : {A : Type 0} (P : A → Type 0) (xs : List A) (x : A) → All P (xs ++ x ∷ []) → All P xs
all_front P xs x h k d l = subst P (get_or-append xs (x ∷ []) d k l)
    (h k d (omega (arith, length-append xs (x ∷ []))))

all_last : {A : Type 0} (P : A → Type 0) (xs : List A) (x : A) → All P (xs ++ x ∷ []) → P x
all_last P xs x h = subst P (get_or-append_seam xs x [] x)
    (h (length xs) x (omega (arith, length-append xs (x ∷ []))))

all_left_of-push : (f : Grown) (ws : List (Bor (List TermRef))) (os : Bor (List TermRef))
    → all_left_of f (ws ++ os ∷ []) ≡ all_left_of f ws + left_of f os.now
all_left_of-push f [] os = omega arith
all_left_of-push f (w ∷ ws) os = omega (arith, all_left_of-push f ws os)

-- a child is left: it is next
pub open_sibling : (f : Grown) (ws : List (Bor (List TermRef))) (os rest : Bor (List TermRef)) (n : TermRef) (room : ℕ)
    → os.now ≡ n ∷ rest.now → IsOpen f ws os None room → IsOpen f ws rest (Some n) room
open_sibling f ws os rest n room is h =
    let known = subst (λ ns. AllKnown f ns) is h.others_known in
    let fits = h.fits in record {
      waiting_known = h.waiting_known;
      others_known = known_rest f n rest.now known;
      next_known = known_front f n rest.now known;
      alone = alone_still ws os rest n h.alone is;
      fits = omega (arith, fits, ap (left_of f) is);
    }

-- no child is left: the node ends
pub open_inside : (f : Grown) (before ws : List (Bor (List TermRef))) (os outer : Bor (List TermRef)) (room : ℕ)
    → before ≡ ws ++ outer ∷ [] → IsOpen f before os None room → IsOpen f ws outer None room
open_inside f before ws os outer room is h =
    let known = subst (λ b. AllWaitingKnown f b) is h.waiting_known in
    let fits = h.fits in record {
      waiting_known = all_front (λ ns. AllKnown f ns.now) ws outer known;
      others_known = all_last (λ ns. AllKnown f ns.now) ws outer known;
      next_known = tt;
      alone = alone_inside before ws os outer is h.alone;
      fits = omega (
        arith,
        fits,
        ap length is,
        length-append ws (outer ∷ []),
        ap (all_left_of f) is,
        all_left_of-push f ws outer,
      );
    }

-- a term that is no node is printed
pub open_behind : (f : Grown) (ws : List (Bor (List TermRef))) (os : Bor (List TermRef)) (n : TermRef) (room : ℕ)
    → IsOpen f ws os (Some n) room → IsOpen f ws os None room
open_behind f ws os n room h =
    let fits = h.fits in record {
      waiting_known = h.waiting_known;
      others_known = h.others_known;
      next_known = tt;
      alone = h.alone;
      fits = omega (arith, fits);
    }

-- a node has one term more than its children have
node_terms : (f : Grown) (n : TermRef) (p : ℕ) (cs : List TermRef) → StandsFor f n (built p (terms_of f cs))
    → cost 1 0 (term_at f n) ≡ 1 + left_of f cs
node_terms f n p cs stands = ap (λ t. cost 1 0 (unwrap_or t nothing)) stands

-- so there is room for it
pub room_for : (f : Grown) (ws : List (Bor (List TermRef))) (os cs : Bor (List TermRef)) (n : TermRef) (room : ℕ)
    → HasChildren f n (Some cs) → IsOpen f ws os (Some n) room → length ws < room
room_for f ws os cs n room h was =
    let fits = was.fits in
    omega (arith, fits, node_terms f n h.0.0 cs.now h.0.1)

-- a node is begun
pub open_around : (f : Grown) (before ws : List (Bor (List TermRef))) (os cs : Bor (List TermRef)) (n : TermRef)
    (room : ℕ) → before ≡ ws ++ os ∷ [] → HasChildren f n (Some cs) → IsOpen f ws os (Some n) room
    → IsOpen f before cs None room
open_around f before ws os cs n room is h was =
    let fits = was.fits in
    subst (λ b. IsOpen f b cs None room) (sym is) (record {
      waiting_known = All-push (λ ns. AllKnown f ns.now) ws os was.waiting_known was.others_known;
      others_known = h.1;
      next_known = tt;
      alone = alone_around ws os cs was.alone;
      fits = omega (
        arith,
        fits,
        node_terms f n h.0.0 cs.now h.0.1,
        length-append ws (os ∷ []),
        all_left_of-push f ws os,
      );
    })

-- a node is begun that has no children
pub childless_text : (v : Notation) (f : Grown) (before ws : List (Bor (List TermRef))) (os cs : Bor (List TermRef))
    (n : TermRef) → before ≡ ws ++ os ∷ [] → HasChildren f n (Some cs) → cs.now ≡ []
    → opening v (term_at f n) ++ left_text v f before cs ≡ term_text v f n ++ left_text v f ws os
childless_text v f before ws os cs n is h none =
    let stands = h.0.1 in
    rw (is, left_text-push v f ws os cs, none, stands, none) (simp append_assoc)

-- a node is begun, up to its first child
pub child_text : (v : Notation) (f : Grown) (before ws : List (Bor (List TermRef))) (os cs rest : Bor (List TermRef))
    (n first : TermRef) → before ≡ ws ++ os ∷ [] → HasChildren f n (Some cs) → cs.now ≡ first ∷ rest.now
    → opening v (term_at f n) ++ (term_text v f first ++ left_text v f before rest)
    ≡ term_text v f n ++ left_text v f ws os
child_text v f before ws os cs rest n first is h split =
    let p = h.0.0 in
    let head = v.opens p in
    let node : term_text v f n ≡ head ++ (term_text v f first ++ tail_text v f rest.now)
    = ap (λ t. written v (unwrap_or t nothing)) h.0.1
    ∙ (ap (λ ns. head ++ written_all v (terms_of f ns) ++ v.closes) split
    ∙ (append_assoc head (written_all v (terms_of f (first ∷ rest.now))) v.closes
    ∙ ap (λ t. head ++ t) (written_all-tail v f first rest.now))) in
    let opened : opening v (term_at f n) ≡ head = ap (λ t. opening v (unwrap_or t nothing)) h.0.1 in
    rw (opened, is, left_text-push v f ws os rest, node) (simp append_assoc)

-- a term that is no node is printed whole
pub whole_text : (v : Notation) (f : Grown) (ws : List (Bor (List TermRef))) (os : Bor (List TermRef)) (n : TermRef)
    → HasChildren f n None → opening v (term_at f n) ++ left_text v f ws os ≡ term_text v f n ++ left_text v f ws os
whole_text v f ws os n h = ap (λ t. t ++ left_text v f ws os) (sym (h v))

-- nothing comes
pub nothing_appended : (o : Outgoing) (n : Option (List ℕ)) → IsAppended o o n n [] (Ok tt)
nothing_appended o n = λ b text u. subst (IsUnderway b n o) (sym (append-nil text)) u

-- bytes are printed, and then what is printed behind them
pub printed_on : (o o' o'' : Outgoing) (n n' n'' : Option (List ℕ)) (bytes mid whole : List ℕ)
    (left : Option TermRef → List ℕ) (r : Result (Option TermRef) WriteFault) → bytes ++ mid ≡ whole
    → IsAppended o o' n n' bytes (Ok tt) → IsPrinted o' o'' n' n'' mid left r → IsPrinted o o'' n n'' whole left r
printed_on o o' o'' n n' n'' bytes mid whole left (Ok next) is h k = (
  bytes ++ k.0,
  append_assoc bytes k.0 (left next) ∙ (ap (λ t. bytes ++ t) k.1 ∙ is),
  appended_twice o o' o'' n n' n'' bytes k.0 tt (Ok tt) h k.2,
)
printed_on o o' o'' n n' n'' bytes mid whole left (Err fault) is h k =
    subst (λ t. IsAppended o o'' n n'' t (Err fault)) is
    (appended_twice o o' o'' n n' n'' bytes mid tt (Err fault) h k)

-- the writer failed at the first bytes of what is printed
pub printed_fails : (o o' o'' : Outgoing) (n n' : Option (List ℕ)) (bytes mid whole : List ℕ)
    (left : Option TermRef → List ℕ) (r : Result (Option TermRef) WriteFault) (fault : WriteFault)
    → bytes ++ mid ≡ whole → IsErrAnd r (λ e. e ≡ fault) → IsAppended o o' n n' bytes (Err fault)
    → IsPrinted o o'' n n' whole left r
printed_fails o o' o'' n n' bytes mid whole left (Ok next) fault is e h = absurd e
printed_fails o o' o'' n n' bytes mid whole left (Err f) fault is e h =
    subst (λ f. IsAppended o o'' n n' whole (Err f)) (sym e) (λ b text u.
    subst (IsCutShort b n' fault.written) (append_assoc text bytes mid ∙ ap (λ t. text ++ t) is)
    (cut_more b n' fault.written (text ++ bytes) mid (h b text u)))

-- fewer terms are left than were
pub fewer_than : (left : Option TermRef → ℕ) (before whole : ℕ) (r : Result (Option TermRef) WriteFault)
    → before < whole → IfOk r (λ next. left next ≤ before) → IfOk r (λ next. left next < whole)
fewer_than left before whole (Ok next) less h = omega arith
fewer_than left before whole (Err fault) less h = tt

-- a child is left: it is next
pub sibling_left : (f : Grown) (ws : List (Bor (List TermRef))) (os rest : Bor (List TermRef)) (n : TermRef)
    → os.now ≡ n ∷ rest.now → terms_left f (Some n) ws rest ≡ terms_left f None ws os
sibling_left f ws os rest n is = omega (arith, ap (left_of f) is)

-- no child is left: the node ends
pub inside_left : (f : Grown) (before ws : List (Bor (List TermRef))) (os outer : Bor (List TermRef))
    → before ≡ ws ++ outer ∷ [] → terms_left f None ws outer ≤ terms_left f None before os
inside_left f before ws os outer is = omega (arith, ap (all_left_of f) is, all_left_of-push f ws outer)

-- a node is begun
pub around_left : (f : Grown) (before ws : List (Bor (List TermRef))) (os cs : Bor (List TermRef)) (n : TermRef)
    → before ≡ ws ++ os ∷ [] → HasChildren f n (Some cs) → terms_left f None before cs < terms_left f (Some n) ws os
around_left f before ws os cs n is h = omega (
  arith,
  node_terms f n h.0.0 cs.now h.0.1,
  ap (all_left_of f) is,
  all_left_of-push f ws os,
)

-- a term is printed whole
pub behind_left : (f : Grown) (ws : List (Bor (List TermRef))) (os : Bor (List TermRef)) (n : TermRef)
    → terms_left f None ws os < terms_left f (Some n) ws os
behind_left f ws os n = omega (arith, each_in_cost 1 0 (term_at f n))

-- what is printed before the children of a term is the beginning of it
pub opened_before : (v : Notation) (f : Grown) (n : TermRef) (left : List ℕ)
    → (more : List ℕ) × (opening v (term_at f n) ++ more ≡ term_text v f n ++ left)
opened_before v f n left = opens (term_at f n)
  where
    opens : (t : Term) → (more : List ℕ) × (opening v t ++ more ≡ written v t ++ left)
    opens nothing = (left, refl)
    opens (leaf t bytes) = (left, refl)
    opens (built p ts) = (
      (written_all v ts ++ v.closes) ++ left,
      sym (append_assoc (v.opens p) (written_all v ts ++ v.closes) left)
          ∙ ap (λ t. t ++ left) (sym (append_assoc (v.opens p) (written_all v ts) v.closes)),
    )

-- Of the line these bytes are on their way, and then these are left, and a newline.
module _ (line : List ℕ) (before : Option (List ℕ)) where
  abbrev none_sent : Outgoing
  none_sent = record { sent = 0; held = [] }

  -- all of it can be counted
  pub line_counted : (o : Outgoing) (now : Option (List ℕ)) (told left : List ℕ) → (told ++ left) ++ newline ∷ [] ≡ line
      → IsAppended none_sent o before now told (Ok tt) → bytes_of o + (length left + 1) ≡ length line
  line_counted o now told left is come =
      omega (
        arith,
        all_there before now o told (underway_from none_sent o before now told refl come),
        ap length is,
        length-append (told ++ left) (newline ∷ []),
        length-append told left,
      )

  -- more of it is printed
  pub line_goes_on : (o o' : Outgoing) (now now' : Option (List ℕ)) (told left : List ℕ)
      (behind : Option TermRef → List ℕ) (next : Option TermRef) → (told ++ left) ++ newline ∷ [] ≡ line
      → IsAppended none_sent o before now told (Ok tt) → IsPrinted o o' now now' left behind (Ok next)
      → (more : List ℕ) × ((more ++ behind next) ++ newline ∷ [] ≡ line)
      × IsAppended none_sent o' before now' more (Ok tt)
  line_goes_on o o' now now' told left behind next is come printed = (
    told ++ printed.0,
    ap (λ t. t ++ newline ∷ [])
        (append_assoc told printed.0 (behind next) ∙ ap (λ t. told ++ t) printed.1)
        ∙ is,
    appended_twice none_sent o o' before now now' told printed.0 tt (Ok tt) come printed.2,
  )

  -- the writer failed before its newline
  pub line_cut : (o o' : Outgoing) (now now' : Option (List ℕ)) (told left : List ℕ) (fault : WriteFault)
      → (told ++ left) ++ newline ∷ [] ≡ line → IsAppended none_sent o before now told (Ok tt)
      → IsAppended o o' now now' left (Err fault) → IsCutShort before now' fault.written line
  line_cut o o' now now' told left fault is come failed =
      subst (IsCutShort before now' fault.written) is
      (cut_more before now' fault.written (told ++ left) (newline ∷ [])
      (cut_from none_sent o' before now' (told ++ left) refl fault
      (appended_twice none_sent o o' before now now' told left tt (Err fault) come failed)))

  -- the term is printed whole, so the newline is left
  pub newline_left : (v : Notation) (f : Grown) (waiting : List (Bor (List TermRef))) (others : Bor (List TermRef))
      (next : Option TermRef) (told : List ℕ) → next ≡ None → waiting ≡ []
      → (told ++ (next_text v f next ++ left_text v f waiting others)) ++ newline ∷ [] ≡ line
      → told ++ newline ∷ [] ≡ line
  newline_left v f waiting others next told none ends is =
      let left : next_text v f next ++ left_text v f waiting others ≡ []
      = ap (λ n. next_text v f n ++ left_text v f waiting others) none ∙ ap (λ ws. left_text v f ws others) ends in
      ap (λ t. t ++ newline ∷ []) (sym (append-nil told) ∙ ap (λ t. told ++ t) (sym left)) ∙ is

  -- the writer failed at the newline
  pub newline_cut : (o o' : Outgoing) (now now' : Option (List ℕ)) (told : List ℕ) (fault : WriteFault)
      → told ++ newline ∷ [] ≡ line → IsAppended none_sent o before now told (Ok tt)
      → IsAppended o o' now now' (newline ∷ []) (Err fault) → IsCutShort before now' fault.written line
  newline_cut o o' now now' told fault is come failed =
      subst (IsCutShort before now' fault.written) is
      (cut_from none_sent o' before now' (told ++ newline ∷ []) refl fault
      (appended_twice none_sent o o' before now now' told (newline ∷ []) tt (Err fault) come failed))

  -- all of it is on its way
  pub line_underway : (o o' : Outgoing) (now now' : Option (List ℕ)) (told : List ℕ) → told ++ newline ∷ [] ≡ line
      → IsAppended none_sent o before now told (Ok tt) → IsAppended o o' now now' (newline ∷ []) (Ok tt)
      → IsUnderway before now' o' line
  line_underway o o' now now' told is come pushed =
      subst (IsUnderway before now' o') is
      (underway_from none_sent o' before now' (told ++ newline ∷ []) refl
      (appended_twice none_sent o o' before now now' told (newline ∷ []) tt (Ok tt) come pushed))

-- what holds at each end holds at the one that came
pub where_ok : {E : Type 0} (r : Result (Unit {0}) E) (A : Type 0) (B : E → Type 0) → MatchResult r (λ _. A) B
    → OnOk r A
where_ok (Ok x) A B h = h
where_ok (Err e) A B h = tt

pub where_err : {E : Type 0} (r : Result (Unit {0}) E) (A : Type 0) (B : E → Type 0) → MatchResult r (λ _. A) B
    → IfErr r B
where_err (Ok x) A B h = tt
where_err (Err e) A B h = h
