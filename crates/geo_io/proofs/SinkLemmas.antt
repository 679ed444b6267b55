-- Bytes added to a sink.
use Rattle.std.proofs.Common.{ℕ, ◌+◌, ◌-◌, List, ◌++◌, length, take, drop, Option, Some, None, ◌∙◌, ap, append_assoc}
use Rattle.std.proofs.Math.Seq.{take-add}
use Rattle.geo_io.specs.Sink.{Grows, SinkView, Takes}
use Rattle.geo_io.proofs.SourceLemmas.{tail_range}

-- added, and then more
pub Grows-more : (a b c : Option (List ℕ)) (x y : List ℕ) → Grows a x b → Grows b y c → Grows a (x ++ y) c
Grows-more None None None x y h k = tt
Grows-more (Some a) (Some b) (Some c) x y h k = k ∙ ap (λ t. t ++ y) h ∙ append_assoc a x y
Grows-more None None (Some c) x y h k = absurd k
Grows-more None (Some b) c x y h k = absurd h
Grows-more (Some a) None c x y h k = absurd h
Grows-more (Some a) (Some b) None x y h k = absurd k

-- taken, and then more
pub Takes-more : (a b c : SinkView) (x y : List ℕ) → Takes a x b → Takes b y c → Takes a (x ++ y) c
Takes-more a b c x y h k = record {
  taken = k.taken ∙ ap (λ t. t ++ y) h.taken ∙ append_assoc a.taken x y;
  grows = Grows-more a.held b.held c.held x y h.grows k.grows;
}

-- one more part of the bytes was taken, whatever was taken before
pub takes_on : (b c : SinkView) (n k : ℕ) (xs : List ℕ) → Takes b (take k (take (length xs - n) (drop n xs))) c
    → (first : SinkView) → Takes first (take n xs) b → Takes first (take (n + k) xs) c
takes_on b c n k xs m first h =
    rw (take-add n k xs) (Takes-more first b c (take n xs) (take k (drop n xs)) h (rw tail_range at m))
