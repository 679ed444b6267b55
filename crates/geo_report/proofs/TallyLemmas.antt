-- The numbers of the replies.
use Rattle.std.proofs.Common.{◌≡◌, ◌≢◌, ℕ, ◌+◌, ◌*◌, ◌^◌, ◌<◌, ◌≤◌, ◌==◌, Bool, List, [], ◌∷◌, ◌++◌, length, Option, Some, None, IfSome, refl, sym, ap, ◌∙◌, subst, arith, get_or, take, codes, flat_map, replicate, cond, inl, inr}
use Rattle.std.specs.Prelude.{count_by, sum_by, filter_map}
use Rattle.std.specs.List.{cons_option}
use Rattle.std.proofs.lemmas.Bool.{cases_Bool}
use Rattle.std.proofs.lemmas.Bool.Decides.{nat_tests}
use Rattle.std.proofs.Math.ListN.{set}
use Rattle.std.proofs.lemmas.List.{length-set, get_or-set_same, get_or-set_other, get_or-replicate, append-nil, take_more, length-take-le}
use Rattle.std.proofs.lemmas.List.Sums.{sum_by-append, count_by-le-length}
use Rattle.std.proofs.lemmas.List.Elements.{filter_map-append}
use Rattle.geo_base.specs.Errno.{errno_text}
use Rattle.geo_base.specs.declared.errno.Errno.{Errno}
use Rattle.geo_base.specs.declared.errno.Errno.TheVariants as errnos
use Rattle.geo_model.specs.declared.command.LineCommand.{LineCommand}
use Rattle.geo_model.specs.declared.step.Entry.{Entry}
use Rattle.geo_model.specs.declared.step.Reply.{Reply}
use Rattle.geo_model.specs.declared.step.Reply.TheVariants as replies
use Rattle.geo_model.specs.Report.{errno_number, is_ok_reply, is_refusal, reply_len, reply_from, count_line, all_errnos}
use Rattle.geo_report.specs.declared.tally.Tally.{Tally}
use Rattle.geo_report.specs.Tallies.{IsTally, IsBelow, with_reply, noted_answer, replies_of, error_line, tally_text}
use Rattle.geo_report.proofs.MeshLemmas.{flat_map_same}

-- Sums of a list with one more at its end

sum_more : (f : Reply → ℕ) (rs : List Reply) (r : Reply) → sum_by f (rs ++ r ∷ []) ≡ sum_by f rs + f r
sum_more f rs r = let both = sum_by-append f rs (r ∷ []) in omega (arith, both)

count_more : (p : Reply → Bool) (rs : List Reply) (r : Reply)
    → count_by p (rs ++ r ∷ []) ≡ count_by p rs + cond (p r) 1 0
count_more p rs r = sum_more (λ x. cond (p x) 1 0) rs r

-- Errors

errno_below : (e : Errno) → errno_number e < 11
errno_below errnos.ENOENT = omega arith
errno_below errnos.EEXIST = omega arith
errno_below errnos.EBADF = omega arith
errno_below errnos.ENXIO = omega arith
errno_below errnos.EPERM = omega arith
errno_below errnos.EOVERFLOW = omega arith
errno_below errnos.EBUSY = omega arith
errno_below errnos.EINVAL = omega arith
errno_below errnos.EIO = omega arith
errno_below errnos.ELOOP = omega arith
errno_below errnos.EDEEP = omega arith

-- one more at a place, and nothing elsewhere
one_more_here : (numbers : List ℕ) (n k : ℕ) → n ≡ k → k < length numbers
    → get_or (set numbers n (get_or numbers n 0 + 1)) k 0 ≡ get_or numbers k 0 + 1
one_more_here numbers n k same within =
    let P : ℕ → Type 0 = λ j. get_or (set numbers j (get_or numbers j 0 + 1)) k 0 ≡ get_or numbers k 0 + 1 in
    subst P (sym same) (get_or-set_same numbers k (get_or numbers k 0 + 1) 0 within)

errors_more : (rs : List Reply) (numbers : List ℕ) (x e : Errno) → length numbers ≡ 11
    → get_or numbers (errno_number e) 0 ≡ count_by (is_refusal e) rs
    → get_or (set numbers (errno_number x) (get_or numbers (errno_number x) 0 + 1)) (errno_number e) 0
    ≡ count_by (is_refusal e) (rs ++ replies.Refused x ∷ [])
errors_more rs numbers x e long is =
    let more = count_more (is_refusal e) rs (replies.Refused x) in
    elim (cases_Bool (errno_number x == errno_number e)) [
      | inl hit ↦
          let same : errno_number x ≡ errno_number e = grind (arith, nat_tests, hit) in
          let within : errno_number e < length numbers = omega (arith, long, errno_below e) in
          let here = one_more_here numbers (errno_number x) (errno_number e) same within in
          let one : cond {A = ℕ} (is_refusal e (replies.Refused x)) 1 0 ≡ 1 = rw hit refl in
          omega (arith, more, here, one, is)
      | inr miss ↦
          let other : errno_number e ≢ errno_number x = λ s. absurd (grind (arith, nat_tests, s, miss)) in
          let more_there = get_or numbers (errno_number x) 0 + 1 in
          let there = get_or-set_other numbers (errno_number x) (errno_number e) more_there 0 other in
          let none : cond {A = ℕ} (is_refusal e (replies.Refused x)) 1 0 ≡ 0 = rw miss refl in
          omega (arith, more, there, none, is)
    ]

-- Tallies

pub no_replies : IsTally [] (record { ok = 0; errors = replicate 11 0; bytes = 0 })
no_replies = record {
  ok = refl;
  kinds = refl;
  errors = λ e. get_or-replicate 11 (errno_number e) 0 0 (errno_below e);
  bytes = refl;
}

tally_noted : (rs : List Reply) (t : Tally) (r : Reply) → IsTally rs t → IsTally (rs ++ r ∷ []) (with_reply t r)
tally_noted rs t replies.Ok is = record {
  ok = omega (arith, count_more is_ok_reply rs replies.Ok, is.ok);
  kinds = is.kinds;
  errors = λ e. omega (arith, count_more (is_refusal e) rs replies.Ok, is.errors e);
  bytes = omega (arith, sum_more reply_len rs replies.Ok, is.bytes);
}
tally_noted rs t (replies.Bytes bytes) is = record {
  ok = omega (arith, count_more is_ok_reply rs (replies.Bytes bytes), is.ok);
  kinds = is.kinds;
  errors = λ e. omega (arith, count_more (is_refusal e) rs (replies.Bytes bytes), is.errors e);
  bytes = omega (arith, sum_more reply_len rs (replies.Bytes bytes), is.bytes);
}
tally_noted rs t (replies.Refused x) is = record {
  ok = omega (arith, count_more is_ok_reply rs (replies.Refused x), is.ok);
  kinds = length-set t.errors (errno_number x) (get_or t.errors (errno_number x) 0 + 1) ∙ is.kinds;
  errors = λ e. errors_more rs t.errors x e is.kinds (is.errors e);
  bytes = omega (arith, sum_more reply_len rs (replies.Refused x), is.bytes);
}
tally_noted rs t (replies.Listing lines) is = record {
  ok = omega (arith, count_more is_ok_reply rs (replies.Listing lines), is.ok);
  kinds = is.kinds;
  errors = λ e. omega (arith, count_more (is_refusal e) rs (replies.Listing lines), is.errors e);
  bytes = omega (arith, sum_more reply_len rs (replies.Listing lines), is.bytes);
}

tally_answer : (rs : List Reply) (t : Tally) (o : Option Reply) → IsTally rs t
    → IsTally (rs ++ cons_option o []) (noted_answer t o)
tally_answer rs t None is = let P : List Reply → Type 0 = λ l. IsTally l t in subst P (sym (append-nil rs)) is
tally_answer rs t (Some r) is = tally_noted rs t r is

replies_more : (log : List Entry) (commands : List LineCommand) (i : ℕ) (c : LineCommand) → i < length commands
    → c ≡ get_or commands i c
    → replies_of log (take (i + 1) commands)
    ≡ replies_of log (take i commands) ++ cons_option (reply_from log c.line) []
replies_more log commands i c within is =
    let h : LineCommand → Option Reply = λ c. reply_from log c.line in
    ap (λ l. filter_map h l) (take_more commands i c within)
    ∙ filter_map-append h (take i commands) (get_or commands i c ∷ [])
    ∙ ap (λ x. filter_map h (take i commands) ++ filter_map h (x ∷ [])) (sym is)

-- the numbers with the reply to one line more
pub next_tally : (log : List Entry) (commands : List LineCommand) (i : ℕ) (c : LineCommand) (o : Option Reply)
    (t more : Tally) → i < length commands → c ≡ get_or commands i c → o ≡ reply_from log c.line
    → more ≡ noted_answer t o → IsTally (replies_of log (take i commands)) t
    → IsTally (replies_of log (take (i + 1) commands)) more
next_tally log commands i c o t more within is answer noted so_far =
    let rs : List Reply = replies_of log (take i commands) in
    let own : replies_of log (take (i + 1) commands) ≡ rs ++ cons_option o [] =
    replies_more log commands i c within is ∙ ap (λ o. rs ++ cons_option o []) (sym answer) in
    let P : List Reply → Type 0 = λ l. IsTally l more in
    let Q : Tally → Type 0 = λ t. IsTally (rs ++ cons_option o []) t in
    subst P (sym own) (subst Q (sym noted) (tally_answer rs t o so_far))

bytes_noted : (i : ℕ) (t : Tally) (r : Reply) → reply_len r < 2 ^ 64 → t.bytes ≤ i * 2 ^ 64
    → (with_reply t r).bytes ≤ (i + 1) * 2 ^ 64
bytes_noted i t replies.Ok short so_far = omega (arith, so_far)
bytes_noted i t (replies.Bytes bytes) short so_far = omega (arith, so_far, short)
bytes_noted i t (replies.Refused x) short so_far = omega (arith, so_far)
bytes_noted i t (replies.Listing lines) short so_far = omega (arith, so_far)

-- the bytes stay below so many times 2 ^ 64
pub next_bytes : (i : ℕ) (o : Option Reply) (t more : Tally) → more ≡ noted_answer t o
    → IfSome o (λ r. reply_len r < 2 ^ 64) → t.bytes ≤ i * 2 ^ 64 → more.bytes ≤ (i + 1) * 2 ^ 64
next_bytes i None t more noted short so_far =
    let same = ap (λ (t : Tally). t.bytes) noted in omega (arith, same, so_far)
next_bytes i (Some r) t more noted short so_far =
    let same = ap (λ (t : Tally). t.bytes) noted in omega (arith, same, bytes_noted i t r short so_far)

filter_map_length : (h : LineCommand → Option Reply) (cs : List LineCommand) → length (filter_map h cs) ≤ length cs
filter_map_length h [] = omega arith
filter_map_length h (c ∷ cs) = first (h c) (filter_map_length h cs)
  where
    first : (o : Option Reply) → length (filter_map h cs) ≤ length cs
        → length (cons_option o (filter_map h cs)) ≤ length (c ∷ cs)
    first None few = omega (arith, few)
    first (Some r) few = omega (arith, few)

-- there is room for one reply more
pub has_room : (log : List Entry) (commands : List LineCommand) (i : ℕ) (t : Tally) → i < length commands
    → length commands < 2 ^ 64 → IsTally (replies_of log (take i commands)) t → t.bytes ≤ i * 2 ^ 64
    → IsBelow 18446744073709551614 t
has_room log commands i t within short is bytes =
    let rs : List Reply = replies_of log (take i commands) in
    let few : length rs ≤ i =
    let own = filter_map_length (λ c. reply_from log c.line) (take i commands) in
    let front = length-take-le i commands (omega (arith, within)) in omega (arith, own, front) in
    record {
      ok = omega (arith, count_by-le-length is_ok_reply rs, is.ok, few);
      errors = λ e. omega (arith, count_by-le-length (is_refusal e) rs, is.errors e, few);
      bytes = omega (arith, bytes);
    }

-- The lines of the numbers

pub tally_lines : (rs : List Reply) (t : Tally) → IsTally rs t → tally_text t
    ≡ count_line (codes "ok") (count_by is_ok_reply rs)
    ++ flat_map (λ e. count_line (errno_text e) (count_by (is_refusal e) rs)) all_errnos
    ++ count_line (codes "bytes") (sum_by reply_len rs)
unfolding tally_text
tally_lines rs t is =
    let errors = flat_map_same (error_line t) (λ e. count_line (errno_text e) (count_by (is_refusal e) rs))
    (λ e. ap (λ n. count_line (errno_text e) n) (is.errors e)) all_errnos in
    ap (λ n. count_line (codes "ok") n ++ flat_map (error_line t) all_errnos ++ count_line (codes "bytes") t.bytes)
    is.ok
    ∙ ap (λ l. count_line (codes "ok") (count_by is_ok_reply rs) ++ l ++ count_line (codes "bytes") t.bytes) errors
    ∙ ap (λ n. count_line (codes "ok") (count_by is_ok_reply rs)
    ++ flat_map (λ e. count_line (errno_text e) (count_by (is_refusal e) rs)) all_errnos
    ++ count_line (codes "bytes") n) is.bytes
