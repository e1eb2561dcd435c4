-- What is read is what the elements are.
use Rattle.std.proofs.Common.{◌≡◌, ℕ, List, [], ◌∷◌, ◌++◌, Option, Some, None, refl, sym, ap, ◌∙◌, append_assoc}
use Rattle.std.proofs.lemmas.List.{append-nil}
use Rattle.ly_ere.specs.Expression.{Expression, set, either, star, plus, optional, repeat, name}
use Rattle.ly_ere.specs.Elements.{Element, one_of, string, named, interval, opening, closing, bar, asterisk, plus_sign}
use Rattle.ly_ere.specs.Elements.{question_mark, caret, dollar_sign, slash}
use Rattle.ly_ere.specs.Names.{Definition, number_of}
use Rattle.ly_ere.specs.Grammar.{Atom, Piece, Branch, Alternation, byte_atom, string_atom, name_atom, group, atom}
use Rattle.ly_ere.specs.Grammar.{starred, repeated, left_open, piece, joined, counted, branch, parted, in_order}
use Rattle.ly_ere.specs.Private.Groups.{Group, new_group, joined_branch, open_branch, joined_whole, whole, with_atom}
use Rattle.ly_ere.specs.Private.Groups.{with_piece, with_postfix, with_branch, with_interval, after_bar, with_bar}
use Rattle.ly_ere.specs.Private.Groups.{Reading, inside, closed, with_name, step, and_then, after_all, start}

module _ (names : List Definition) where
  pub after_all-append : (ws vs : List Element) (r : Reading)
      → after_all names (ws ++ vs) r ≡ and_then (after_all names ws r) (after_all names vs)
  after_all-append [] vs r = refl
  after_all-append (w ∷ ws) vs r = by (step names w r) (after_all-append ws vs)
    where
      by : (o : Option Reading) → ((s : Reading) → after_all names (ws ++ vs) s ≡ and_then (after_all names ws s)
          (after_all names vs))
          → and_then o (after_all names (ws ++ vs)) ≡ and_then (and_then o (after_all names ws)) (after_all names vs)
      by None h = refl
      by (Some s) h = h s

  -- elements that are read, and then more
  then : (ws vs : List Element) (r s : Reading) → after_all names ws r ≡ Some s
      → after_all names (ws ++ vs) r ≡ after_all names vs s
  then ws vs r s e = after_all-append ws vs r ∙ ap (λ o. and_then o (after_all names vs)) e

  abbrev at : List Group → Group → Reading
  at outer g = record { outer = outer; group = g }

  abbrev branches : Option Expression → Option Expression → Option Expression → Group
  branches a b p = record { before = a; branch = b; piece = p }

  mutual
    atom_runs : {ws : List Element} {e : Expression} → Atom names ws e → (outer : List Group) (g : Group)
        → after_all names ws (at outer g) ≡ Some (at outer (with_atom g e))
    atom_runs byte_atom outer g = refl
    atom_runs string_atom outer g = refl
    atom_runs (name_atom is) outer g
        = ap (λ o. and_then (with_name (at outer g) o) (after_all names [])) is
    atom_runs (group {ws = ws} {e = e} a) outer g =
        let h = alternation_runs a (g ∷ outer) in
        then ws (closing ∷ []) (at (g ∷ outer) new_group) (at (g ∷ outer) h.0) h.1
        ∙ ap (λ o. and_then (closed (g ∷ outer) o) (after_all names [])) h.2

    piece_runs : {ws : List Element} {e : Expression} → Piece names ws e → (outer : List Group) (g : Group)
        → after_all names ws (at outer g) ≡ Some (at outer (with_atom g e))
    piece_runs (atom a) outer g = atom_runs a outer g
    piece_runs (starred {ws = ws} {e = e} p) outer g = then ws (asterisk ∷ []) (at outer g) (at outer (with_atom g e))
        (piece_runs p outer g)
    piece_runs (repeated {ws = ws} {e = e} p) outer g = then ws (plus_sign ∷ []) (at outer g) (at outer (with_atom g e))
        (piece_runs p outer g)
    piece_runs (left_open {ws = ws} {e = e} p) outer g =
        then ws (question_mark ∷ []) (at outer g) (at outer (with_atom g e)) (piece_runs p outer g)

    branch_runs : {ws : List Element} {e : Expression} → Branch names ws e → (outer : List Group)
        (a : Option Expression) → (b : Option Expression) × (p : Option Expression)
        × (after_all names ws (at outer (branches a None None)) ≡ Some (at outer (branches a b p)))
        × (joined_branch b p ≡ Some e)
    branch_runs (piece {e = e} p) outer a = (None, Some e, piece_runs p outer (branches a None None), refl)
    branch_runs (joined {ws = ws} {vs = vs} {e = e} {f = f} b p) outer a =
        let h = branch_runs b outer a in
        let g : Group = branches a h.0 h.1 in (
          Some e,
          Some f,
          then ws vs (at outer (branches a None None)) (at outer g) h.2
              ∙ (piece_runs p outer g ∙ ap (λ o. Some (at outer (branches a o (Some f)))) h.3),
          refl,
        )
    branch_runs (counted {ws = ws} {e = e} {m = m} {n = n} b) outer a =
        let h = branch_runs b outer a in
        let g : Group = branches a h.0 h.1 in (
          Some (repeat m n e),
          None,
          then ws (interval m n ∷ []) (at outer (branches a None None)) (at outer g) h.2
              ∙ ap (λ o. and_then (inside outer (with_branch g (repeat m n) o)) (after_all names [])) h.3,
          refl,
        )

    alternation_runs : {ws : List Element} {e : Expression} → Alternation names ws e → (outer : List Group)
        → (g : Group)
        × (after_all names ws (at outer new_group) ≡ Some (at outer g)) × (whole g ≡ Some e)
    alternation_runs (branch b) outer =
        let h = branch_runs b outer None in
        (branches None h.0 h.1, h.2, ap (joined_whole None) h.3)
    alternation_runs (parted {ws = ws} {vs = vs} {e = e} a b) outer =
        let h = alternation_runs a outer in
        let k = branch_runs b outer (Some e) in (
          branches (Some e) k.0 k.1,
          then ws (bar ∷ vs) (at outer new_group) (at outer h.0) h.1
              ∙ (ap (λ o. and_then (inside outer (after_bar o)) (after_all names vs)) h.2 ∙ k.2),
          ap (joined_whole (Some e)) k.3,
        )

  -- the elements of a whole expression are read to its end
  pub whole_runs : (ws : List Element) (e : Expression) → Alternation names ws e → (g : Group)
      × (after_all names ws start ≡ Some (at [] g))
      × (whole g ≡ Some e)
  whole_runs ws e a = alternation_runs a []

  -- elements have at most one reading
  pub phrase_one : (ws : List Element) (e f : Expression) → Alternation names ws e → Alternation names ws f → e ≡ f
  phrase_one ws e f a b =
      let h = whole_runs ws e a in
      let k = whole_runs ws f b in
      same h.0 k.0 h.1 k.1 h.2 k.2
    where
      group_of : Option Reading → Group
      group_of None = new_group
      group_of (Some r) = r.group

      same : (g h : Group) → after_all names ws start ≡ Some (at [] g) → after_all names ws start ≡ Some (at [] h)
          → whole g ≡ Some e
          → whole h ≡ Some f → e ≡ f
      same g h p q r s = let i : g ≡ h = ap group_of (sym p ∙ q) in let j : whole g ≡ whole h = ap whole i in cc

  -- which elements a group has read
  EitherRead : Option Expression → List Element → Type 0
  EitherRead None ws = ws ≡ []
  EitherRead (Some e) ws = (vs : List Element) × Alternation names vs e × (ws ≡ vs ++ bar ∷ [])

  BranchRead : Option Expression → List Element → Type 0
  BranchRead None ws = ws ≡ []
  BranchRead (Some e) ws = Branch names ws e

  PieceRead : Option Expression → List Element → Type 0
  PieceRead None ws = ws ≡ []
  PieceRead (Some e) ws = Piece names ws e

  record GroupRead (g : Group) (ws : List Element) : Type 0 where
    es : List Element
    bs : List Element
    ps : List Element
    finished : EitherRead g.before es
    front : BranchRead g.branch bs
    last : PieceRead g.piece ps
    all : ws ≡ es ++ (bs ++ ps)

  StackRead : List Group → List Element → Type 0
  StackRead [] ws = ws ≡ []
  StackRead (g ∷ gs) ws = (us : List Element) × (vs : List Element) × StackRead gs us × GroupRead g vs
      × (ws ≡ us ++ (vs ++ opening ∷ []))

  record IsRead (r : Reading) (ws : List Element) : Type 0 where
    us : List Element
    vs : List Element
    outer : StackRead r.outer us
    group : GroupRead r.group vs
    all : ws ≡ us ++ vs

  branch_read : (b p : Option Expression) (bs ps : List Element) → BranchRead b bs → PieceRead p ps
      → BranchRead (joined_branch b p) (bs ++ ps)
  unfolding BranchRead PieceRead
  branch_read None None bs ps h k = rw (h, k) refl
  branch_read None (Some p) bs ps h k = rw h (piece k)
  branch_read (Some b) None bs ps h k = rw (k, append-nil) h
  branch_read (Some b) (Some p) bs ps h k = joined h k

  open_read : (g : Group) (ws : List Element) (r : GroupRead g ws) → BranchRead (open_branch g) (r.bs ++ r.ps)
  open_read g ws r = branch_read g.branch g.piece r.bs r.ps r.front r.last

  -- one more atom
  atom_read : (g : Group) (ws us : List Element) (e : Expression) → GroupRead g ws → Atom names us e
      → GroupRead (with_atom g e) (ws ++ us)
  unfolding PieceRead
  atom_read g ws us e r a = record {
    es = r.es;
    bs = r.bs ++ r.ps;
    ps = us;
    finished = r.finished;
    front = open_read g ws r;
    last = atom a;
    all = rw (r.all, append_assoc) refl;
  }

  -- the elements of a whole group are an alternation
  alternation_read : (a o : Option Expression) (e : Expression) (es os : List Element) → EitherRead a es
      → BranchRead o os
      → joined_whole a o ≡ Some e → Alternation names (es ++ os) e
  unfolding EitherRead BranchRead
  alternation_read None None e es os h k q = absurd (cc)
  alternation_read (Some a) None e es os h k q = absurd (cc)
  alternation_read None (Some b) e es os h k q = let same : b ≡ e = cc in rw (h, ← same) (branch k)
  alternation_read (Some a) (Some b) e es os h k q = let same : either a b ≡ e = cc
      in rw (h.2, append_assoc, ← same) (parted h.1 k)

  whole_read : (g : Group) (ws : List Element) (e : Expression) → GroupRead g ws → whole g ≡ Some e
      → Alternation names ws e
  whole_read g ws e r q
      = rw r.all (alternation_read g.before (open_branch g) e r.es (r.bs ++ r.ps) r.finished (open_read g ws r) q)

  bar_read : (g h : Group) (ws : List Element) → GroupRead g ws → with_bar g ≡ Some h → GroupRead h (ws ++ bar ∷ [])
  unfolding EitherRead BranchRead PieceRead
  bar_read g h ws r q = by (whole g) refl q
    where
      by : (o : Option Expression) → whole g ≡ o → after_bar o ≡ Some h → GroupRead h (ws ++ bar ∷ [])
      by None p q = absurd (cc)
      by (Some e) p q = let same : branches (Some e) None None ≡ h = cc in rw (← same) (record {
        es = ws ++ bar ∷ [];
        bs = [];
        ps = [];
        finished = (ws, whole_read g ws e r p, refl);
        front = refl;
        last = refl;
        all = rw append-nil refl;
      })

  postfix_read : (g h : Group) (ws us : List Element) (f : Expression → Expression)
      → ((vs : List Element) (e : Expression) → Piece names vs e → Piece names (vs ++ us) (f e)) → GroupRead g ws
      → with_postfix g f ≡ Some h → GroupRead h (ws ++ us)
  unfolding PieceRead
  postfix_read g h ws us f over r q = by g.piece r.last q
    where
      by : (p : Option Expression) → PieceRead p r.ps → with_piece g f p ≡ Some h → GroupRead h (ws ++ us)
      by None l q = absurd (cc)
      by (Some p) l q = let same : branches g.before g.branch (Some (f p)) ≡ h = cc in rw (← same) (record {
        es = r.es;
        bs = r.bs;
        ps = r.ps ++ us;
        finished = r.finished;
        front = r.front;
        last = over r.ps p l;
        all = rw (r.all, append_assoc, append_assoc) refl;
      })

  interval_read : (g h : Group) (ws : List Element) (m : ℕ) (n : Option ℕ) → GroupRead g ws
      → with_interval g m n ≡ Some h → GroupRead h (ws ++ interval m n ∷ [])
  unfolding BranchRead PieceRead
  interval_read g h ws m n r q = by (open_branch g) (open_read g ws r) q
    where
      by : (o : Option Expression) → BranchRead o (r.bs ++ r.ps) → with_branch g (repeat m n) o ≡ Some h
          → GroupRead h (ws ++ interval m n ∷ [])
      by None k q = absurd (cc)
      by (Some b) k q = let same : branches g.before (Some (repeat m n b)) None ≡ h = cc in rw (← same) (record {
        es = r.es;
        bs = (r.bs ++ r.ps) ++ interval m n ∷ [];
        ps = [];
        finished = r.finished;
        front = counted k;
        last = refl;
        all = rw (r.all, append-nil) (simp append_assoc);
      })

  new_read : GroupRead new_group []
  unfolding EitherRead BranchRead PieceRead
  new_read = record { es = []; bs = []; ps = []; finished = refl; front = refl; last = refl; all = refl }

  inside_read : (outer : List Group) (o : Option Group) (us vs : List Element) (s : Reading) → StackRead outer us
      → ((h : Group) → o ≡ Some h → GroupRead h vs) → inside outer o ≡ Some s → IsRead s (us ++ vs)
  inside_read outer None us vs s k f q = absurd (cc)
  inside_read outer (Some g) us vs s k f q = let same : at outer g ≡ s = cc
      in rw (← same) (record { us = us; vs = vs; outer = k; group = f g refl; all = refl })

  closed_read : (outer : List Group) (o : Option Expression) (us vs : List Element) (s : Reading) → StackRead outer us
      → ((e : Expression) → o ≡ Some e → Alternation names vs e) → closed outer o ≡ Some s
      → IsRead s (us ++ (vs ++ closing ∷ []))
  unfolding StackRead
  closed_read [] o us vs s k f q = absurd (cc)
  closed_read (g ∷ gs) None us vs s k f q = absurd (cc)
  closed_read (g ∷ gs) (Some e) us vs s k f q = let same : at gs (with_atom g e) ≡ s = cc in rw (← same) (record {
    us = k.0;
    vs = k.1 ++ (opening ∷ (vs ++ closing ∷ []));
    outer = k.2;
    group = atom_read g k.1 (opening ∷ (vs ++ closing ∷ [])) e k.3 (group (f e refl));
    all = rw k.4 (simp append_assoc);
  })

  step_read : (w : Element) (r s : Reading) (ws : List Element) → IsRead r ws → step names w r ≡ Some s
      → IsRead s (ws ++ w ∷ [])
  unfolding StackRead
  step_read (one_of bytes) r s ws i q = let same : at r.outer (with_atom r.group (set bytes)) ≡ s = cc
      in rw (← same, i.all, append_assoc) (record {
        us = i.us;
        vs = i.vs ++ one_of bytes ∷ [];
        outer = i.outer;
        group = atom_read r.group i.vs (one_of bytes ∷ []) (set bytes) i.group byte_atom;
        all = refl;
      })
  step_read (string bytes) r s ws i q = let same : at r.outer (with_atom r.group (in_order bytes)) ≡ s = cc
      in rw (← same, i.all, append_assoc) (record {
        us = i.us;
        vs = i.vs ++ string bytes ∷ [];
        outer = i.outer;
        group = atom_read r.group i.vs (string bytes ∷ []) (in_order bytes) i.group string_atom;
        all = refl;
      })
  step_read (named n) r s ws i q = by (number_of names n) refl q
    where
      by : (o : Option ℕ) → number_of names n ≡ o → with_name r o ≡ Some s → IsRead s (ws ++ named n ∷ [])
      by None p q = absurd (cc)
      by (Some x) p q = let same : at r.outer (with_atom r.group (name x)) ≡ s = cc
          in rw (← same, i.all, append_assoc) (record {
            us = i.us;
            vs = i.vs ++ named n ∷ [];
            outer = i.outer;
            group = atom_read r.group i.vs (named n ∷ []) (name x) i.group (name_atom p);
            all = refl;
          })
  step_read opening r s ws i q = let same : at (r.group ∷ r.outer) new_group ≡ s = cc
      in rw (← same) (record {
        us = ws ++ opening ∷ [];
        vs = [];
        outer = (i.us, i.vs, i.outer, i.group, rw (i.all, append_assoc) refl);
        group = new_read;
        all = rw append-nil refl;
      })
  step_read closing r s ws i q
      = rw (i.all, append_assoc) (closed_read r.outer (whole r.group) i.us i.vs s i.outer
      (λ e p. whole_read r.group i.vs e i.group p) q)
  step_read bar r s ws i q
      = rw (i.all, append_assoc) (inside_read r.outer (with_bar r.group) i.us (i.vs ++ bar ∷ []) s i.outer
      (λ h p. bar_read r.group h i.vs i.group p) q)
  step_read asterisk r s ws i q
      = rw (i.all, append_assoc) (inside_read r.outer (with_postfix r.group star) i.us (i.vs ++ asterisk ∷ []) s i.outer
      (λ h p. postfix_read r.group h i.vs (asterisk ∷ []) star (λ vs e k. starred k) i.group p) q)
  step_read plus_sign r s ws i q
      = rw (i.all, append_assoc) (inside_read r.outer (with_postfix r.group plus) i.us
      (i.vs ++ plus_sign ∷ []) s i.outer
      (λ h p. postfix_read r.group h i.vs (plus_sign ∷ []) plus (λ vs e k. repeated k) i.group p) q)
  step_read question_mark r s ws i q
      = rw (i.all, append_assoc) (inside_read r.outer (with_postfix r.group optional) i.us
      (i.vs ++ question_mark ∷ []) s i.outer (λ h p. postfix_read r.group h i.vs (question_mark ∷ []) optional
      (λ vs e k. left_open k) i.group p) q)
  step_read (interval m n) r s ws i q
      = rw (i.all, append_assoc) (inside_read r.outer (with_interval r.group m n) i.us
      (i.vs ++ interval m n ∷ []) s i.outer (λ h p. interval_read r.group h i.vs m n i.group p) q)
  step_read caret r s ws i q = absurd (cc)
  step_read dollar_sign r s ws i q = absurd (cc)
  step_read slash r s ws i q = absurd (cc)

  run_read : (ws us : List Element) (r s : Reading) → IsRead r us → after_all names ws r ≡ Some s → IsRead s (us ++ ws)
  run_read [] us r s i q = let same : r ≡ s = cc in rw (append-nil, ← same) i
  run_read (w ∷ ws) us r s i q = by (step names w r) refl q (run_read ws (us ++ w ∷ []))
    where
      by : (o : Option Reading) → step names w r ≡ o → and_then o (after_all names ws) ≡ Some s
          → ((r s : Reading) → IsRead r (us ++ w ∷ []) → after_all names ws r ≡ Some s
          → IsRead s ((us ++ w ∷ []) ++ ws))
          → IsRead s (us ++ (w ∷ ws))
      by None p q f = absurd (cc)
      by (Some t) p q f = rw append_assoc at (f t s (step_read w r t us i p) q)

  -- what is read to its end is a phrase
  pub read_is_phrase : (ws : List Element) (g : Group) (e : Expression) → after_all names ws start ≡ Some (at [] g)
      → whole g ≡ Some e
      → Alternation names ws e
  unfolding StackRead
  read_is_phrase ws g e q p =
      let i = run_read ws [] start (at [] g) (record { us = []; vs = []; outer = refl; group = new_read; all = refl }) q
      in
      rw (i.all, i.outer) (whole_read g i.vs e i.group p)
