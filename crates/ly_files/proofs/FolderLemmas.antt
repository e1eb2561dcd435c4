-- Lemmas on files by their paths.
use Rattle.std.proofs.Common.{◌≡◌, ◌≢◌, ◌∙◌, ◌⊎◌, ◌++◌, ◌<◌, ◌≤◌, ◌+◌, ℕ, Bool, List, [], ◌∷◌, Option, Some, None}
use Rattle.std.proofs.Common.{ap, arith, drop, false, get_or, inl, inr, length, min, refl, rules, suc, sym, take, true}
use Rattle.std.specs.Prelude.{Err, Ok, OnErr, OnOk, Result, bytes_eq, option_map, string_bytes}
use Rattle.std.proofs.Math.Seq.{drop-drop, take-append_seam, take-suc}
use Rattle.std.proofs.lemmas.List.{length-take-le, take-append-drop}
use Rattle.std.proofs.lemmas.Slice.Eq.{bytes_eq-Decides}
use Rattle.ly_files.specs.Folder.{AreSame, Files, IsBegun, IsCreated, IsRenamed, IsSet, IsSetSomehow, set}
use Rattle.ly_files.specs.MemFolder.{changed_by, no_files}
use Rattle.ly_files.specs.declared.mem_folder.Entry.{Entry}

-- two paths are the same, or they differ
pub same_or_not : (p q : List ℕ) → (p ≡ q) ⊎ (bytes_eq p q ≡ false)
same_or_not p q = by (bytes_eq p q) refl
  where
    by : (b : Bool) → bytes_eq p q ≡ b → (p ≡ q) ⊎ (bytes_eq p q ≡ false)
    by true is = inl ((bytes_eq-Decides p q).0 is)
    by false is = inr is

-- paths that differ are told apart
pub differ : (p q : List ℕ) → p ≢ q → bytes_eq p q ≡ false
differ p q other = by (same_or_not p q)
  where
    by : (p ≡ q) ⊎ (bytes_eq p q ≡ false) → bytes_eq p q ≡ false
    by (inl same) = absurd (other same)
    by (inr is) = is

-- the path names what was set
pub set_here : (path : List ℕ) (file : Option (List ℕ)) (f : Files) → set path file f path ≡ file
set_here path file f = rw ((bytes_eq-Decides path path).1 refl) refl

-- another path names what it named
pub set_there : (path : List ℕ) (file : Option (List ℕ)) (f : Files) (p : List ℕ) → bytes_eq p path ≡ false
    → set path file f p ≡ f p
set_there path file f p is = rw is refl

-- files in which a path names what it names are the same
pub set_own : (path : List ℕ) (f : Files) → IsSetSomehow path f f
set_own path f = (f path, λ p. by p (same_or_not p path))
  where
    by : (p : List ℕ) → (p ≡ path) ⊎ (bytes_eq p path ≡ false) → f p ≡ set path (f path) f p
    by p (inl same) = rw same (sym (set_here path (f path) f))
    by p (inr is) = sym (set_there path (f path) f p is)

-- unchanged files in which a path is set
pub set_same : (path : List ℕ) (f g : Files) → g ≡ f → IsSetSomehow path f g
set_same path f g same = rw same (set_own path f)

-- one more change
pub changed_once_more : (es : List Entry) (e : Entry) (f : Files) → changed_by (es ++ e ∷ []) f
    ≡ set (string_bytes e.path) (option_map (λ v. v.items) e.file) (changed_by es f)
changed_once_more [] e f = refl
changed_once_more (x ∷ es) e f =
    changed_once_more es e (set (string_bytes x.path) (option_map (λ v. v.items) x.file) f)

-- one more
add_one : (i : ℕ) → i + 1 ≡ suc i
add_one i = search (rules, arith)

-- the file that a path names after one change more
pub named_by_next : (es : List Entry) (i : ℕ) (e d : Entry) (p : List ℕ) → i < length es → get_or es i d ≡ e
    → changed_by (take (i + 1) es) no_files p
    ≡ set (string_bytes e.path) (option_map (λ v. v.items) e.file) (changed_by (take i es) no_files) p
named_by_next es i e d p more is = rw is at
    (ap (λ n. changed_by (take n es) no_files p) (add_one i) ∙ ap (λ l. changed_by l no_files p) (take-suc es i d more)
    ∙ ap (λ f. f p) (changed_once_more (take i es) (get_or es i d) no_files))

-- a new file that gets the path of another replaces it
pub new_replaces : (path new bytes : List ℕ) (f g h : Files) → new ≢ path → IsCreated new bytes f g
    → IsRenamed new path g h → IsSet path (Some bytes) f h
new_replaces path new bytes f g h beside created renamed p =
    renamed p ∙ by (same_or_not p new) (same_or_not p path)
  where
    from_new : g new ≡ Some bytes
    from_new = created.1 new ∙ set_here new (Some bytes) f

    by : (p ≡ new) ⊎ (bytes_eq p new ≡ false) → (p ≡ path) ⊎ (bytes_eq p path ≡ false)
        → set new None (set path (g new) g) p ≡ set path (Some bytes) f p
    by (inl same) other = rw same
        (set_here new None (set path (g new) g) ∙ sym created.0
        ∙ sym (set_there path (Some bytes) f new (differ new path beside)))
    by (inr apart) (inl same) = set_there new None (set path (g new) g) p apart
        ∙ rw same (set_here path (g new) g ∙ from_new ∙ sym (set_here path (Some bytes) f))
    by (inr apart) (inr other) = set_there new None (set path (g new) g) p apart
        ∙ set_there path (g new) g p other ∙ created.1 p ∙ set_there new (Some bytes) f p apart
        ∙ sym (set_there path (Some bytes) f p other)

-- a new file that is removed leaves the files as they were
pub begun_and_removed : (new : List ℕ) (f g h : Files) → IsBegun new f g → IsSet new None g h → AreSame f h
begun_and_removed new f g h begun removed p = removed p ∙ by (same_or_not p new)
  where
    by : (p ≡ new) ⊎ (bytes_eq p new ≡ false) → set new None g p ≡ f p
    by (inl same) = rw same (set_here new None g ∙ sym begun.0)
    by (inr apart) = set_there new None g p apart ∙ begun.1.1 p ∙ set_there new begun.1.0 f p apart

-- a file that is created is begun
pub created_is_begun : (new bytes : List ℕ) (f g : Files) → IsCreated new bytes f g → IsBegun new f g
created_is_begun new bytes f g created = (created.0, (Some bytes, created.1))

-- a change after which the files are the same as before another one
pub set_after_same : (path : List ℕ) (file : Option (List ℕ)) (f g h : Files) → AreSame f g → IsSet path file g h
    → IsSet path file f h
set_after_same path file f g h same is p = is p ∙ by (same_or_not p path)
  where
    by : (p ≡ path) ⊎ (bytes_eq p path ≡ false) → set path file g p ≡ set path file f p
    by (inl here) = rw here (set_here path file g ∙ sym (set_here path file f))
    by (inr apart) = set_there path file g p apart ∙ same p ∙ sym (set_there path file f p apart)

-- what is read of bytes, and what is left then
pub rest_read : (bytes rest copied buf : List ℕ) (read n : ℕ) → rest ≡ drop read bytes → n ≤ length rest
    → copied ≡ take n rest → drop read bytes ≡ take n (copied ++ drop n buf) ++ drop (read + n) bytes
rest_read bytes rest copied buf read n is within at = sym
    (ap (λ xs. xs ++ drop (read + n) bytes)
    (ap (λ xs. take n (xs ++ drop n buf)) at ∙ cut (take n rest) (length-take-le n rest within))
    ∙ ap (λ xs. take n rest ++ xs) (drop_twice ∙ ap (drop n) (sym is))
    ∙ take-append-drop n rest ∙ is)
  where
    cut : (xs : List ℕ) → length xs ≡ n → take n (xs ++ drop n buf) ≡ xs
    cut xs long = rw long at (take-append_seam xs (drop n buf))

    drop_twice : drop (read + n) bytes ≡ drop n (drop read bytes)
    drop_twice = sym (drop-drop n read bytes)

-- two changes more
pub changed_twice_more : (es : List Entry) (a b : Entry) (f : Files) → changed_by ((es ++ a ∷ []) ++ b ∷ []) f
    ≡ set (string_bytes b.path) (option_map (λ v. v.items) b.file)
    (set (string_bytes a.path) (option_map (λ v. v.items) a.file) (changed_by es f))
changed_twice_more es a b f = changed_once_more (es ++ a ∷ []) b f
    ∙ ap (set (string_bytes b.path) (option_map (λ v. v.items) b.file)) (changed_once_more es a f)

-- a path was set, or nothing changed
pub put_or_not : {T E : Type 0} (path bytes : List ℕ) (f g : Files) (h : Files) (r : Result T E)
    → OnOk r (h ≡ set path (Some bytes) g) → OnErr r (h ≡ g) → g ≡ f → IsSetSomehow path f h
put_or_not path bytes f g h (Ok v) ok err same = (Some bytes, λ p. ap (λ k. k p) (ok ∙ ap (set path (Some bytes)) same))
put_or_not path bytes f g h (Err e) ok err same = set_same path f h (err ∙ same)

-- nothing is left of bytes if nothing is read of them
pub nothing_left : (bytes rest : List ℕ) (read n l : ℕ) → rest ≡ drop read bytes → n ≡ min l (length rest) → n ≡ 0
    → 0 < l → drop (read + n) bytes ≡ []
nothing_left bytes rest read n l is least none some = sym (drop-drop n read bytes) ∙ ap (drop n) (sym is)
    ∙ rw none (empty rest (search (rules, arith)))
  where
    empty : (xs : List ℕ) → length xs ≡ 0 → xs ≡ []
    empty [] e = refl
    empty (x ∷ xs) e = absurd (search (rules, arith))

-- a path that isn't told apart names what was set
pub set_at : (path : List ℕ) (file : Option (List ℕ)) (f : Files) (p : List ℕ) → bytes_eq p path ≡ true
    → set path file f p ≡ file
set_at path file f p is = rw is refl

-- one file has the path of another
pub moved_to : (to from a b : List ℕ) (file : Option (List ℕ)) (f g : Files) (p : List ℕ) → b ≡ from → a ≡ to
    → g ≡ f → file ≡ g from → set b None (set a file g) p ≡ set from None (set to (f from) f) p
moved_to to from a b file f g p last first same is = cc
