-- Bytes taken from a source.
use Rattle.std.proofs.Common.{◌≡◌, ℕ, ◌+◌, ◌-◌, ◌≤◌, List, ◌++◌, length, take, drop, Option, Some, None, refl, sym, ◌∙◌, ap, subst, arith, append_assoc, length-append, take-append-drop, ◌==◌, Bool, false}
use Rattle.std.proofs.Math.Seq.{take-length, take-add}
use Rattle.std.proofs.lemmas.List.{take_at, drop-drop}
use Rattle.std.proofs.Common.{length-drop}
use Rattle.geo_io.specs.Counts.{raised}
use Rattle.geo_io.specs.MemSource.{after_read}
use Rattle.geo_io.specs.Source.{Gives, GivesAtMost, GivesNothing, Goes, SourceView}

-- taken, and then more
pub Goes-more : (a b c : Option (List ℕ)) (x y : List ℕ) → Goes a x b → Goes b y c → Goes a (x ++ y) c
Goes-more None None None x y h k = tt
Goes-more (Some a) (Some b) (Some c) x y h k = h ∙ ap (λ t. x ++ t) k ∙ sym (append_assoc x y c)
Goes-more None None (Some c) x y h k = absurd k
Goes-more None (Some b) c x y h k = absurd h
Goes-more (Some a) None c x y h k = absurd h
Goes-more (Some a) (Some b) None x y h k = absurd k

-- given, and then more
pub Gives-more : (a b c : SourceView) (x y : List ℕ) → Gives a x b → Gives b y c → Gives a (x ++ y) c
Gives-more a b c x y h k = record {
  given = k.given ∙ ap (λ t. t ++ y) h.given ∙ append_assoc a.given x y;
  goes = Goes-more a.left b.left c.left x y h.goes k.goes;
}

-- given, and then nothing more
pub GivesAtMost-same : (a b c : SourceView) (x : List ℕ) (limit : ℕ) → Gives a x b → length x ≤ limit
    → GivesNothing b c → GivesAtMost a limit c
GivesAtMost-same a b c x limit g h same = record {
  bytes = x;
  few = h;
  gives = record {
    given = same.given ∙ g.given;
    goes = subst (λ left. Goes a.left x left) (sym same.left) g.goes;
  };
}

-- given, and then at most so many more
pub GivesAtMost-more : (a b c : SourceView) (x : List ℕ) (room limit : ℕ) → Gives a x b → GivesAtMost b room c
    → length x + room ≤ limit → GivesAtMost a limit c
GivesAtMost-more a b c x room limit g t h =
    record {
      bytes = x ++ t.bytes;
      few = rw (length-append x t.bytes) (omega (arith, t.few));
      gives =
          Gives-more a b c x t.bytes g t.gives;
    }

-- what a range to the end is
pub tail_range : (d : ℕ) (xs : List ℕ) → take (length xs - d) (drop d xs) ≡ drop d xs
tail_range d xs = rw (← length-drop d xs) (take-length (drop d xs))

-- bytes moved from a place to the front of a buffer
pub moved : (at n : ℕ) (bytes out new part : List ℕ) → part ≡ drop at bytes → n ≤ length part → length new ≡ n
    → new ≡ take n part →
    drop at bytes ≡ take n (new ++ drop n out) ++ drop (at + n) bytes
moved at n bytes out new part p le size e =
    rw (take_at new (drop n out) n size, e, p, ← drop-drop n at bytes) (sym (take-append-drop n (drop at bytes)))

-- bytes in front of a place, and those that were moved from there to the front of a buffer
pub given : (at n : ℕ) (bytes out new part : List ℕ) → part ≡ drop at bytes → length new ≡ n → new ≡ take n part →
    take (at + n) bytes ≡ take at bytes ++ take n (new ++ drop n out)
given at n bytes out new part p size e =
    take-add at n bytes ∙ ap (λ t. take at bytes ++ t) (sym (take_at new (drop n out) n size ∙ e ∙ ap (take n) p))

-- a source in memory that stands so many bytes further on is the one after a read of them
pub fed : (at n calls after piece faults : ℕ) (bytes fails : List ℕ) (ended failed : Bool)
    → after ≡ raised calls →
    record {
      given = take (at + n) bytes;
      ended = n == 0;
      left = drop (at + n) bytes;
      piece = piece;
      fails = fails;
      calls = after;
      faults = faults;
      failed = false;
    }
    ≡ after_read (record {
      given = take at bytes;
      ended = ended;
      left = drop at bytes;
      piece = piece;
      fails = fails;
      calls = calls;
      faults = faults;
      failed = failed;
    }) n
fed at n calls after piece faults bytes fails ended failed is = rw (take-add at n bytes, drop-drop n at bytes, is) refl
