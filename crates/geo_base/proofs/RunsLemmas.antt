-- Texts of runs, from the first byte on.
use Rattle.std.proofs.Common.{◌≡◌, ℕ, ◌+◌, ◌<◌, ◌≤◌, ◌==◌, Bool, true, false, List, [], ◌∷◌, ◌++◌, length, map, refl, sym, ◌∙◌, ap, arith, get_or, drop, if◌then◌else◌, eq-eqb, append_assoc, append-nil, replicate, add-zero, zero, suc}
use Rattle.std.proofs.lemmas.Bool.Decides.{nat_tests}
use Rattle.std.specs.List.{join_with_byte}
use Rattle.std.proofs.Math.ListN.{drop_of_length-le}
use Rattle.std.proofs.lemmas.List.{drop_more}
use Rattle.geo_base.specs.Runs.{ByteRun, add_byte, runs_of, run_text, runs_text}

abbrev pub run : ℕ → ℕ → ByteRun
run b n = record { byte = b; times = n }

-- the runs of n times b and then the bytes
abbrev pub runs_after : ℕ → ℕ → List ℕ → List ByteRun
runs_after b n [] = run b n ∷ []
runs_after b n (c ∷ cs) = if c == b then runs_after b (n + 1) cs else run b n ∷ runs_after c 1 cs

-- n times b before the runs
abbrev add_times : ℕ → ℕ → List ByteRun → List ByteRun
add_times b n [] = run b n ∷ []
add_times b n (x ∷ xs) = if b == x.byte then run b (x.times + n) ∷ xs else run b n ∷ (x ∷ xs)

-- their text
abbrev pub text_after : ℕ → ℕ → List ℕ → List ℕ
text_after b n bs = join_with_byte 32 (map run_text (runs_after b n bs))

if_same : {A : Type 0} (b : ℕ) (x y : A) → (if b == b then x else y) ≡ x
if_same b x y = rw (eq-eqb b b refl) refl

add_times-same : (b n : ℕ) (xs : List ByteRun) → add_times b n (add_byte b xs) ≡ add_times b (n + 1) xs
add_times-same b n [] = if_same b _ _ ∙ ap (λ m. run b m ∷ []) (omega arith)
add_times-same b n (x ∷ xs) = into (b == x.byte) refl
  where
    into : (t : Bool) → (b == x.byte) ≡ t
        → add_times b n (if t then run b (x.times + 1) ∷ xs else run b 1 ∷ (x ∷ xs))
        ≡ (if t then run b (x.times + (n + 1)) ∷ xs else run b (n + 1) ∷ (x ∷ xs))
    into true e = if_same b _ _ ∙ ap (λ m. run b m ∷ xs) (omega arith)
    into false e = if_same b _ _ ∙ ap (λ m. run b m ∷ (x ∷ xs)) (omega arith)

add_times-other : (b n c : ℕ) (xs : List ByteRun) → (b == c) ≡ false
    → add_times b n (add_byte c xs) ≡ run b n ∷ add_byte c xs
add_times-other b n c [] e = rw e refl
add_times-other b n c (x ∷ xs) e = into (c == x.byte)
  where
    into : (t : Bool) → add_times b n (if t then run c (x.times + 1) ∷ xs else run c 1 ∷ (x ∷ xs)) ≡ run b n
        ∷ (if t then run c (x.times + 1) ∷ xs else run c 1 ∷ (x ∷ xs))
    into true = rw e refl
    into false = rw e refl

add_times-one : (b : ℕ) (xs : List ByteRun) → add_times b 1 xs ≡ add_byte b xs
add_times-one b [] = refl
add_times-one b (x ∷ xs) = refl

runs_after-of : (b n : ℕ) (bs : List ℕ) → runs_after b n bs ≡ add_times b n (runs_of bs)
runs_after-of b n [] = refl
runs_after-of b n (c ∷ cs) = into (c == b) refl (runs_after-of b (n + 1) cs) (runs_after-of c 1 cs)
  where
    into : (t : Bool) → (c == b) ≡ t → runs_after b (n + 1) cs ≡ add_times b (n + 1) (runs_of cs)
        → runs_after c 1 cs ≡ add_times c 1 (runs_of cs)
        → (if t then runs_after b (n + 1) cs else run b n ∷ runs_after c 1 cs)
        ≡ add_times b n (add_byte c (runs_of cs))
    into true e on _ =
        let same : c ≡ b = grind (arith, nat_tests) in
        rw same (on ∙ sym (add_times-same b n (runs_of cs)))
    into false e _ next =
        let other : (b == c) ≡ false = grind (arith, nat_tests) in
        ap (λ l. run b n ∷ l) (next ∙ add_times-one c (runs_of cs)) ∙ sym (add_times-other b n c (runs_of cs) other)

-- a byte more of the run
pub text_after-same : (b n c : ℕ) (cs : List ℕ) → c ≡ b → text_after b n (c ∷ cs) ≡ text_after b (n + 1) cs
text_after-same b n c cs e = rw (eq-eqb c b e) refl

-- a run joined to those after it
text_join : (r : ByteRun) (c n : ℕ) (cs : List ℕ)
    → join_with_byte 32 (run_text r ∷ map run_text (runs_after c n cs)) ≡ run_text r ++ (32 ∷ text_after c n cs)
text_join r c n [] = refl
text_join r c n (d ∷ ds) = into (d == c) (text_join r c (n + 1) ds)
  where
    into : (t : Bool) → join_with_byte 32 (run_text r ∷ map run_text (runs_after c (n + 1) ds)) ≡ run_text r
        ++ (32 ∷ text_after c (n + 1) ds)
        → join_with_byte 32 (run_text r
        ∷ map run_text (if t then runs_after c (n + 1) ds else run c n ∷ runs_after d 1 ds)) ≡ run_text r
        ++ (32 ∷ join_with_byte 32
        (map run_text (if t then runs_after c (n + 1) ds else run c n ∷ runs_after d 1 ds)))
    into true on = on
    into false _ = refl

-- the run ends before another byte
pub text_after-other : (b n c : ℕ) (cs : List ℕ) → (c == b) ≡ false
    → text_after b n (c ∷ cs) ≡ run_text (run b n) ++ (32 ∷ text_after c 1 cs)
text_after-other b n c cs e = rw e (text_join (run b n) c 1 cs)

-- the whole text, by its first byte
pub text_after-all : (b : ℕ) (bs : List ℕ) → text_after b 0 (b ∷ bs) ≡ runs_text (b ∷ bs)
unfolding runs_text
text_after-all b bs = text_after-same b 0 b bs refl
    ∙ ap (λ l. join_with_byte 32 (map run_text l)) (runs_after-of b 1 bs ∙ add_times-one b (runs_of bs))

-- nothing is read yet
pub text_first : (bytes : List ℕ) → 1 ≤ length bytes → text_after (get_or bytes 0 0) 0 bytes ≡ runs_text bytes
text_first [] h = absurd (omega arith)
text_first (b ∷ bs) h = text_after-all b bs

-- the next byte is of the run
pub text_on : (bytes : List ℕ) (i b n : ℕ) (text all : List ℕ) → i < length bytes → get_or bytes i 0 ≡ b →
    text ++ text_after b n (drop i bytes) ≡ all → text ++ text_after b (n + 1) (drop (i + 1) bytes) ≡ all
text_on bytes i b n text all h same whole =
    ap (λ l. text ++ l)
    (sym (ap (text_after b n) (drop_more bytes i 0 h)
    ∙ text_after-same b n (get_or bytes i 0) (drop (i + 1) bytes) same)) ∙ whole

-- the next byte begins a run
pub text_next : (bytes : List ℕ) (i b n : ℕ) (text more all : List ℕ) → i < length bytes
    → (get_or bytes i 0 == b) ≡ false → more ≡ text ++ run_text (run b n) ++ 32 ∷ [] →
    text ++ text_after b n (drop i bytes) ≡ all → more ++ text_after (get_or bytes i 0) 1 (drop (i + 1) bytes) ≡ all
text_next bytes i b n text more all h other written whole =
    let next = text_after (get_or bytes i 0) 1 (drop (i + 1) bytes) in
    rw written (append_assoc (text ++ run_text (run b n)) (32 ∷ []) next
    ∙ append_assoc text (run_text (run b n)) (32 ∷ next)
    ∙ ap (λ l. text ++ l)
    (sym (ap (text_after b n) (drop_more bytes i 0 h)
    ∙ text_after-other b n (get_or bytes i 0) (drop (i + 1) bytes) other)) ∙ whole)

-- no byte is left
pub text_end : (bytes : List ℕ) (i b n : ℕ) (text all : List ℕ) → length bytes ≤ i
    → text ++ text_after b n (drop i bytes) ≡ all → text ++ run_text (run b n) ≡ all
text_end bytes i b n text all h whole =
    ap (λ l. text ++ l) (sym (ap (text_after b n) (drop_of_length-le bytes h))) ∙ whole

-- the text of bytes, by their first
pub runs_text-after : (b : ℕ) (bs : List ℕ) → runs_text (b ∷ bs) ≡ text_after b 1 bs
runs_text-after b bs = sym (text_after-all b bs) ∙ text_after-same b 0 b bs refl

text_after-replicate : (v k m : ℕ) (ys : List ℕ) → text_after v k (replicate m v ++ ys) ≡ text_after v (k + m) ys
text_after-replicate v k zero ys = ap (λ n. text_after v n ys) (sym (add-zero k))
text_after-replicate v k (suc m) ys =
    text_after-same v k v (replicate m v ++ ys) refl ∙ text_after-replicate v (k + 1) m ys
    ∙ ap (λ n. text_after v n ys) (omega arith)

text_many : (v n : ℕ) (ys : List ℕ) → 1 ≤ n → runs_text (replicate n v ++ ys) ≡ text_after v n ys
text_many v zero ys h = absurd (omega arith)
text_many v (suc m) ys h =
    runs_text-after v (replicate m v ++ ys) ∙ text_after-replicate v 1 m ys ∙ ap (λ n. text_after v n ys) (omega arith)

-- the text of a byte many times
pub runs_one : (v n : ℕ) → 1 ≤ n → runs_text (replicate n v) ≡ run_text (run v n)
runs_one v n h = ap runs_text (sym (append-nil (replicate n v))) ∙ text_many v n [] h

-- a byte many times, before others
pub runs_more : (v n y : ℕ) (ys : List ℕ) → 1 ≤ n → (y == v) ≡ false
    → runs_text (replicate n v ++ (y ∷ ys)) ≡ run_text (run v n) ++ (32 ∷ runs_text (y ∷ ys))
runs_more v n y ys h other = text_many v n (y ∷ ys) h ∙ text_after-other v n y ys other
    ∙ ap (λ l. run_text (run v n) ++ (32 ∷ l)) (sym (runs_text-after y ys))
