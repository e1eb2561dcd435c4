-- Proper beginnings of parts.
use Rattle.std.proofs.Common.{◌≡◌, ◌≢◌, ◌∙◌, ◌<◌, ◌≤◌, ◌+◌, ◌-◌, ◌*◌, ◌++◌, ◌^◌, ℕ, zero, suc, ap₂, List, [], ◌∷◌}
use Rattle.std.proofs.Common.{◌/◌, drop, length, get_or, ap, sym, subst, take}
use Rattle.std.proofs.Common.{append_assoc, append-nil, All, arith, replicate, length-append, refl}
use Rattle.std.proofs.Common as memory
use Rattle.std.proofs.Common.{w8}
use Rattle.std.proofs.Common.{Result, Ok, Err, IfErr, IsErrAnd}
use Rattle.std.specs.Int.{w16, w32, byte_len, from_be_bytes}
use Rattle.std.specs.List.{flat_map}
use Rattle.std.proofs.Math.Nat.{add-mul, one-mul}
use Rattle.std.proofs.lemmas.List.{length-drop, length-replicate, length-take-le, nil_from_length, take-append-drop}
use Rattle.std.proofs.lemmas.List.Elements.{All-append, All-drop, All-from_get_or, All-replicate, All-take}
use Rattle.std.proofs.lemmas.Nat.{be_bytes_2, be_bytes_4}
use Rattle.std.proofs.lemmas.List.Elements.{All-cons, All-head, All-nil, All-tail}
use Rattle.byteorder.specs.Endian.{big_number}
use Rattle.ly_tables.specs.Private.Parts.{AreBytes, IsByteText, IsBeginning, IsNumberText, IsStringText}
use Rattle.ly_tables.specs.Private.Parts.{Repeated, Spells, Stops, Then}
use Rattle.ly_base.specs.declared.version.Version.{Version}
use Rattle.ly_base.specs.declared.version.Version.TheVariants.{V1, V2}
use Rattle.ly_tables.specs.Ranges.{width_of}
use Rattle.ly_tables.specs.RawSet.{Fits, IsByte}
use Rattle.ly_tables.specs.Spelling.{number}
use Rattle.ly_tables.specs.declared.fault.TableFault.{TableFault}
use Rattle.ly_tables.specs.declared.fault.TableFault.TheVariants.{BadMagic, BadVersion, Endless, OutOfMemory}
use Rattle.ly_tables.specs.declared.fault.TableFault.TheVariants.{OutOfRange, Trailing, Truncated}

-- what isn't nothing is not so with more behind it
not_nothing : (missing rest : List ℕ) → missing ≢ [] → missing ++ rest ≢ []
not_nothing [] rest some = absurd (some refl)
not_nothing (m ∷ ms) rest some = λ e. cc

-- a beginning of a part of one kind is one of another, where each whole part is
pub begun_as : {A B : List ℕ → Type 0} {bytes : List ℕ} → ((whole : List ℕ) → A whole → B whole) → IsBeginning A bytes
    → IsBeginning B bytes
begun_as {A} {B} {bytes} all begun =
    record { missing = begun.missing; some = begun.some; all = all (bytes ++ begun.missing) begun.all }

-- where the first of two parts is only begun
pub begun_first : {V : Type 0} {fits : V → Type 0} {spelled : V → List ℕ} {behind : V → List ℕ
    → Type 0} {bytes : List ℕ}
    → ((v : V) → fits v → (rest : List ℕ) × behind v rest) → IsBeginning (Spells fits spelled) bytes
    → IsBeginning (Then fits spelled behind) bytes
begun_first {V} {fits} {spelled} {behind} {bytes} some begun =
    let first = begun.all in
    let follows = some first.value first.fit in
    record {
      missing = begun.missing ++ follows.0;
      some = not_nothing begun.missing follows.0 begun.some;
      all = record {
        value = first.value;
        rest = follows.0;
        fit = first.fit;
        follows = follows.1;
        is = sym (append_assoc bytes begun.missing follows.0) ∙ ap (λ x. x ++ follows.0) first.is;
      };
    }

-- where the second is
pub begun_behind : {V : Type 0} {fits : V → Type 0} {spelled : V → List ℕ} {behind : V → List ℕ → Type 0}
    {bytes : List ℕ} (v : V) (left : List ℕ) → fits v × (bytes ≡ spelled v ++ left) → IsBeginning (behind v) left
    → IsBeginning (Then fits spelled behind) bytes
begun_behind {V} {fits} {spelled} {behind} {bytes} v left (fit, is) begun = record {
  missing = begun.missing;
  some = begun.some;
  all = record {
    value = v;
    rest = left ++ begun.missing;
    fit = fit;
    follows = begun.all;
    is = ap (λ x. x ++ begun.missing) is ∙ append_assoc (spelled v) left begun.missing;
  };
}

-- what memory holds as bytes are bytes
pub are_bytes : (bytes : List ℕ) → ((i : ℕ) → memory.Fits w8 (get_or bytes i 0)) → All IsByte bytes
are_bytes bytes fit = All-from_get_or IsByte bytes 0 (λ i lt. (fit i).fits)

-- bytes that are too few, where so many of any value are a part
pub begun_few : {A : List ℕ → Type 0} (count : ℕ) (bytes : List ℕ) → length bytes < count → All IsByte bytes
    → ((whole : List ℕ) → AreBytes count whole → A whole) → IsBeginning A bytes
begun_few {A} count bytes few all make =
    let zeros : List ℕ = replicate (count - length bytes) 0 in
    let long : length zeros ≡ count - length bytes = length-replicate {A = ℕ} (count - length bytes) 0 in
    let bounded : All IsByte zeros = All-replicate IsByte (count - length bytes) 0 (omega arith) in
    record {
      missing = zeros;
      some = λ e. absurd (omega (arith, ap (length {A = ℕ}) e, long));
      all = make (bytes ++ zeros) (
        omega (arith, length-append bytes zeros, long),
        All-append IsByte bytes zeros all
            bounded,
      );
    }

-- a byte is a number
pub byte_part : (bytes : List ℕ) → AreBytes 1 bytes → IsByteText bytes
byte_part [] (long, all) = absurd (omega (arith, long))
byte_part (byte ∷ []) (long, all) = record { value = byte; fit = all 0 0 (omega arith); is = refl }
byte_part (byte ∷ next ∷ more) (long, all) = absurd (omega (arith, long))

-- what lies behind the end is 0
pub small : (bytes : List ℕ) → All IsByte bytes → (i : ℕ) → get_or bytes i 0 < 256
small [] all i = omega arith
small (byte ∷ bytes) all zero = all 0 0 (omega arith)
small (byte ∷ bytes) all (suc i) = small bytes (λ k d lt. all (suc k) d (omega arith)) i

-- two bytes are a number
pub short_part : (bytes : List ℕ) → AreBytes 2 bytes → IsNumberText w16 bytes
short_part bytes (long, all) = record {
  value = from_be_bytes w16 bytes;
  fit = omega (arith, small bytes all 0, small bytes all 1);
  is = sym (be_bytes_2 bytes (from_be_bytes w16 bytes) long (small bytes all) refl);
}

-- four bytes are a number
pub wide_part : (bytes : List ℕ) → AreBytes 4 bytes → IsNumberText w32 bytes
wide_part bytes (long, all) = record {
  value = from_be_bytes w32 bytes;
  fit = omega (arith, small bytes all 0, small bytes all 1, small bytes all 2, small bytes all 3);
  is = sym (be_bytes_4 bytes (from_be_bytes w32 bytes) long (small bytes all) refl);
}

-- what is read of two bytes is the number that they spell
pub short_read : (text behind : List ℕ) {left : List ℕ} (n : ℕ) → AreBytes 2 text × (left ≡ text ++ behind)
    → n ≡ big_number 2 text → Fits w16 n × (left ≡ number w16 n ++ behind)
short_read text behind n ((long, all), is) read = (
  omega (arith, read, small text all 0, small text all 1),
  is ∙ ap (λ x. x ++ behind) (sym (be_bytes_2 text n long (small text all) (omega (arith, read)))),
)

-- and of four bytes
pub wide_read : (text behind : List ℕ) {left : List ℕ} (n : ℕ) → AreBytes 4 text × (left ≡ text ++ behind)
    → n ≡ big_number 4 text → Fits w32 n × (left ≡ number w32 n ++ behind)
wide_read text behind n ((long, all), is) read = (
  omega (arith, read, small text all 0, small text all 1, small text all 2, small text all 3),
  is ∙ ap (λ x. x ++ behind) (sym (be_bytes_4 text n long (small text all) (omega (arith, read)))),
)

-- parts of values that fit are a list of such
pub repeated_part : {V : Type 0} (fits : V → Type 0) (spelled : V → List ℕ) (n : ℕ) (bytes : List ℕ)
    → Repeated (Spells fits spelled) n bytes → Spells (λ vs. (length vs ≡ n) × All fits vs) (flat_map spelled) bytes
repeated_part {V} fits spelled zero bytes row = record { value = []; fit = (refl, All-nil fits); is = row }
repeated_part {V} fits spelled (suc n) bytes (first, rest, part, row, is) =
    let behind = repeated_part fits spelled n rest row in
    record {
      value = part.value ∷ behind.value;
      fit = (ap suc behind.fit.0, All-cons fits part.value behind.value part.fit behind.fit.1);
      is = is ∙ ap₂ (λ x y. x ++ y) part.is behind.is;
    }

-- a part, as often as is wanted
pub copies : (part : List ℕ → Type 0) (n : ℕ) (bytes : List ℕ) → part bytes → (row : List ℕ) × Repeated part n row
copies part zero bytes is = ([], refl)
copies part (suc n) bytes is =
    let more = copies part n bytes is in (bytes ++ more.0, (bytes, more.0, is, more.1, refl))

-- bytes of the size of so many parts, of which each so many bytes are one, are these parts
sized_part : {part : List ℕ → Type 0} (size : ℕ) → ((bytes : List ℕ) → AreBytes size bytes → part bytes) → (n : ℕ)
    (bytes : List ℕ) → AreBytes (n * size) bytes → Repeated part n bytes
sized_part size one zero bytes (long, all) = nil_from_length bytes (omega (arith, long))
sized_part size one (suc n) bytes (long, all) =
    let next : suc n ≡ n + 1 = omega arith in
    let more : suc n * size ≡ n * size + size
    = ap (λ k. k * size) next ∙ add-mul n 1 size ∙ ap (λ k. n * size + k) (one-mul size) in
    let fits : size ≤ length bytes = omega (arith, long, more) in (
      take size bytes,
      drop size bytes,
      one (take size bytes) (length-take-le size bytes fits, All-take IsByte size bytes all),
      sized_part size one n (drop size bytes) (
        omega (arith, length-drop size bytes, long, more),
        All-drop IsByte size bytes all,
      ),
      sym (take-append-drop size bytes),
    )

-- bytes that are too few for so many numbers are a beginning of such
pub numbers_begun : (v : Version) (count : ℕ) (left : List ℕ) → length left / byte_len (width_of v) < count
    → All IsByte left → IsBeginning (Repeated (IsNumberText (width_of v)) count) left
numbers_begun V1 count left few all = begun_few (count * 2) left (omega (arith, few)) all (sized_part 2 short_part
    count)
numbers_begun V2 count left few all = begun_few (count * 4) left (omega (arith, few)) all (sized_part 4 wide_part count)

-- where one of several parts is only begun: before it are so many parts, and behind it so many more
pub begun_repeated : (part : List ℕ → Type 0) (done more all : ℕ) (before bytes left : List ℕ) → all ≡ done + suc more
    → Repeated part done before → bytes ≡ before ++ left → IsBeginning part left → IsBeginning (Repeated part all) bytes
begun_repeated part zero more zero before bytes left count row is begun = absurd (omega (arith, count))
begun_repeated part zero more (suc all) before bytes left count row is begun =
    let behind = copies part all (left ++ begun.missing) begun.all in
    record {
      missing = begun.missing ++ behind.0;
      some = not_nothing begun.missing behind.0 begun.some;
      all = (
        left ++ begun.missing,
        behind.0,
        begun.all,
        behind.1,
        (let e : bytes ≡ left = is ∙ ap (λ x. x ++ left) row in
            sym (append_assoc bytes begun.missing behind.0) ∙ ap (λ x. (x ++ begun.missing) ++ behind.0) e),
      );
    }
begun_repeated part (suc done) more zero before bytes left count row is begun = absurd (omega (arith, count))
begun_repeated part (suc done) more (suc all) before bytes left count (first, rest, one, row, apart) is begun =
    let behind = begun_repeated part done more all rest (rest ++ left) left (omega (arith, count)) row refl begun in
    record {
      missing = behind.missing;
      some = behind.some;
      all = (
        first,
        (rest ++ left) ++ behind.missing,
        one,
        behind.all,
        (let e : bytes ≡ first ++ (rest ++ left)
            = is ∙ ap (λ x. x ++ left) apart ∙ append_assoc first rest left in
            ap (λ x. x ++ behind.missing) e ∙ append_assoc first (rest ++ left) behind.missing),
      );
    }

-- values that fit are spelled as so many parts
pub spelled_repeated : {V : Type 0} (part : List ℕ → Type 0) (fits : V → Type 0) (spelled : V → List ℕ)
    → ((v : V) → fits v → part (spelled v)) → (vs : List V) → All fits vs
    → Repeated part (length vs) (flat_map spelled vs)
spelled_repeated part fits spelled is_part [] all = refl
spelled_repeated part fits spelled is_part (v ∷ vs) all = (
  spelled v,
  flat_map spelled vs,
  is_part v (All-head fits v vs all),
  spelled_repeated part fits spelled is_part vs (All-tail fits v vs all),
  refl,
)

-- why a part isn't read says why a greater one isn't
stops_as : {P Q : Type 0} (fault : TableFault) → (P → Q) → Stops P fault → Stops Q fault
stops_as Truncated all begun = all begun
stops_as OutOfMemory all begun = tt
stops_as BadMagic all begun = begun
stops_as BadVersion all begun = begun
stops_as Trailing all begun = begun
stops_as (OutOfRange section) all begun = begun
stops_as Endless all begun = begun

-- a fault that is handed on
pub stopped : {T P Q : Type 0} (result : Result T TableFault) (fault : TableFault)
    → IsErrAnd result (λ other. other ≡ fault) → Stops P fault → (P → Q) → IfErr result (Stops Q)
stopped (Ok x) fault same begun all = tt
stopped {T} {P} {Q} (Err other) fault same begun all = subst (Stops Q) (sym same) (stops_as fault all begun)

-- there are so many bytes
pub some_bytes : (n : ℕ) → (bytes : List ℕ) × AreBytes n bytes
some_bytes n = (replicate n 0, (length-replicate n 0, All-replicate IsByte n 0 (omega arith)))

-- a length and so many bytes are a text
pub text_part : (whole : List ℕ) → Then (Fits w16) (number w16) AreBytes whole → IsStringText whole
text_part whole text = record {
  value = text.rest;
  fit = (omega (arith, text.follows.0, text.fit), text.follows.1);
  is = text.is ∙ ap (λ n. number w16 n ++ text.rest) (sym text.follows.0);
}
