-- What a log delivers of a disk tells what the disk holds, fails and is asked along it, and what read bytes tell of it.
use Rattle.std.proofs.Common.{◌≡◌, ℕ, ◌+◌, ◌==◌, Bool, true, false, cond, ◌&&◌, List, [], ◌∷◌, ◌++◌, flat_map, fold, map, count_by, Option, Some, None, option_and_then, refl, sym, ◌∙◌, ap, arith, IsSome, IfSome, subst, eq-eqb, eqb-true, append-nil, append_assoc}
use Rattle.std.proofs.lemmas.List.Elements.{filter_map-append}
use Rattle.std.proofs.lemmas.List.Sums.{fold-append}
use Rattle.std.specs.List.{AllByRecursion, cons_option}
use Rattle.std.specs.Option.{option_map_or, option_to_list}
use Rattle.geo_disk.specs.Calls.{CallMade}
use Rattle.geo_model.specs.declared.step.DeviceResult.{DeviceResult}
use Rattle.geo_model.specs.declared.step.DeviceResult.TheVariants as devices
use Rattle.geo_model.specs.declared.step.Entry.{Entry}
use Rattle.geo_model.specs.declared.step.Request.{Request}
use Rattle.geo_model.specs.declared.step.Step.{Step}
use Rattle.geo_model.specs.declared.step.Step.TheVariants as steps
use Rattle.geo_model.specs.Contents.{after_answer, after_step, contents, AreTrue, ReadsWhatIsHeld, bytes_at}
use Rattle.geo_model.specs.FixedOrder.{delivered_in}
use Rattle.geo_model.specs.Log.{IsSplitBy, Legal, moments, replay}
use Rattle.geo_model.specs.Opening.{opening}
use Rattle.geo_model.specs.Plans.{MayBegin, FactsFit}
use Rattle.geo_model.specs.Results.{request_of, device_answer_of, device_answer_in, entries_of, is_deliver_of, is_take_of, request_in}
use Rattle.geo_model.specs.World.{Plan}
use Rattle.geo_model.proofs.LogLemmas.{Legal-front}
use Rattle.geo_serve.specs.Serve.{is_failed, TellsWhatIsHeld}
use Rattle.geo_headline.specs.Outside.{call_for, call_in, call_served, calls_logged, failures_of, is_failed_answer, is_of_disk}
use Rattle.geo_laws_graph.proofs.Members.{Has, has}
use Rattle.geo_laws_graph.proofs.Numbered.{find-pushed}
use Rattle.geo_laws_requests.proofs.Along.{ledger_along}
use Rattle.geo_laws_requests.proofs.Complete.{entries_back}
use Rattle.geo_laws_requests.proofs.Legal.{opened_firm}
use Rattle.geo_laws_requests.proofs.Opened.{opened_ledger}
use Rattle.geo_laws_requests.specs.Ledger.{Ledger}
use Rattle.geo_laws_disks.specs.Deliveries.{AreTold, Delivery, after_delivery, deliveries, deliveries_by, delivery_in, delivery_of, held_by}
use Rattle.geo_laws_disks.specs.DiskLaws.{contents_from, ContentsFollow, ContentsJoin, DeliversFollowTakes}
use Rattle.geo_laws_disks.proofs.Requests.{request_same, none_in}

-- the call of a delivery
abbrev pub call_delivered : Delivery → CallMade
call_delivered d = call_served d.request d.got

-- What a log does is what it delivers

module _ {S : Type 0} (asked : ℕ → Option Request) (disk : ℕ) (f : S → Step → S) (g : S → Delivery → S)
    (same : (now : S) (s : Step) → f now s ≡ option_map_or (g now) (delivery_in asked disk s) now) where
  -- where each step does what its delivery does, entries do what their deliveries do
  folded : (now : S) (es : List Entry)
      → fold (λ x (e : Entry). f x e.step) now es ≡ fold g now (deliveries_by asked disk es)
  folded now [] = refl
  folded now (e ∷ es) =
      ap (λ x. fold (λ y (z : Entry). f y z.step) x es) (same now e.step)
      ∙ folded (option_map_or (g now) (delivery_in asked disk e.step) now) es ∙ by (delivery_in asked disk e.step)
    where
      by : (o : Option Delivery)
          → fold g (option_map_or (g now) o now) (deliveries_by asked disk es)
          ≡ fold g now (cons_option o (deliveries_by asked disk es))
      by None = refl
      by (Some d) = refl

-- what a step makes of a disk
step_delivers : (log : List Entry) (size disk : ℕ) (held : List (List ℕ)) (s : Step)
    → after_step log size disk held s
    ≡ option_map_or (λ d. after_delivery size held d) (delivery_in (request_of log) disk s) held
step_delivers log size disk held (steps.Deliver b got) = by (request_of log b)
  where
    by : (o : Option Request)
        → after_answer size disk got held o
        ≡ option_map_or (λ d. after_delivery size held d) (delivery_of disk got o) held
    by None = refl
    by (Some q) = grind arith
step_delivers log size disk held s = refl

-- what entries of a log make of it
contents_later : (log : List Entry) (size disk : ℕ) (held : List (List ℕ)) (es : List Entry)
    → contents_from log size held es disk ≡ held_by size held (deliveries_by (request_of log) disk es)
contents_later log size disk held es =
    folded (request_of log) disk (after_step log size disk) (after_delivery size) (step_delivers log size disk) held es

-- after a log
pub contents_by : (log : List Entry) (size disk : ℕ) (held : List (List ℕ))
    → contents size held log disk ≡ held_by size held (deliveries log disk)
unfolding contents
contents_by log size disk held = contents_later log size disk held log

-- a step delivers a failure of a disk
fails_step : (asked : ℕ → Option Request) (disk n : ℕ) (s : Step)
    → n + cond (is_failed_answer s && is_of_disk disk (option_and_then asked (delivered_in s))) 1 0
    ≡ option_map_or (λ d. n + cond (is_failed d.got) 1 0) (delivery_in asked disk s) n
fails_step asked disk n (steps.Deliver b got) = by got (asked b)
  where
    by : (g : DeviceResult) (o : Option Request)
        → n + cond (is_failed_answer (steps.Deliver b g) && is_of_disk disk o) 1 0
        ≡ option_map_or (λ (d : Delivery). n + cond (is_failed d.got) 1 0) (delivery_of disk g o) n
    by (devices.Failed done) (Some q) = grind arith
    by g None = grind arith
    by g (Some q) = grind arith
fails_step asked disk n s = omega arith

-- as many failures
pub failures_by : (log : List Entry) (disk : ℕ)
    → failures_of log disk ≡ count_by (λ d. is_failed d.got) (deliveries log disk)
failures_by log disk =
    folded (request_of log) disk
    (λ n s. n + cond (is_failed_answer s && is_of_disk disk (option_and_then (request_of log) (delivered_in s))) 1 0)
    (λ n d. n + cond (is_failed d.got) 1 0) (fails_step (request_of log) disk) 0 log

-- a step answers the call that it delivers
calls_step : (log : List Entry) (disk : ℕ) (s : Step)
    → call_in log disk s ≡ map call_delivered (option_to_list (delivery_in (request_of log) disk s))
calls_step log disk (steps.Deliver b got) = by (request_of log b)
  where
    by : (o : Option Request) → call_for disk got o ≡ map call_delivered (option_to_list (delivery_of disk got o))
    by None = refl
    by (Some q) = grind arith
calls_step log disk s = refl

-- the calls of a log are those that it delivers
pub calls_by : (log : List Entry) (disk : ℕ) → calls_logged log disk ≡ map call_delivered (deliveries log disk)
calls_by log disk = go log
  where
    go : (es : List Entry)
        → flat_map (λ (e : Entry). call_in log disk e.step) es
        ≡ map call_delivered (deliveries_by (request_of log) disk es)
    go [] = refl
    go (e ∷ es) =
        ap (λ cs. cs ++ flat_map (λ (x : Entry). call_in log disk x.step) es) (calls_step log disk e.step)
        ∙ ap (λ cs. map call_delivered (option_to_list (delivery_in (request_of log) disk e.step)) ++ cs) (go es)
        ∙ by (delivery_in (request_of log) disk e.step)
      where
        by : (o : Option Delivery)
            → map call_delivered (option_to_list o) ++ map call_delivered (deliveries_by (request_of log) disk es)
            ≡ map call_delivered (cons_option o (deliveries_by (request_of log) disk es))
        by None = refl
        by (Some d) = refl

-- Two parts

pub held_by_both : (size : ℕ) (held : List (List ℕ)) (ds es : List Delivery)
    → held_by size held (ds ++ es) ≡ held_by size (held_by size held ds) es
held_by_both size held ds es = fold-append (after_delivery size) held ds es

-- where both parts tell what the disk held, both together do, and the other way
pub told_by_both : (size : ℕ) (held : List (List ℕ)) (ds es : List Delivery) → AreTold size held ds
    → AreTold size (held_by size held ds) es → AreTold size held (ds ++ es)
told_by_both size held [] es first second = second
told_by_both size held (d ∷ ds) es first second =
    (first.0, told_by_both size (after_delivery size held d) ds es first.1 second)

-- The requests of deliveries

-- where steps deliver the same by two tables, so do entries
pub deliver_same : (asked table : ℕ → Option Request) (disk : ℕ) (Q : Step → Type 0)
    → ((s : Step) → Q s → delivery_in asked disk s ≡ delivery_in table disk s) → (es : List Entry)
    → AllByRecursion (λ (e : Entry). Q e.step) es → deliveries_by asked disk es ≡ deliveries_by table disk es
deliver_same asked table disk Q same [] all = refl
deliver_same asked table disk Q same (e ∷ es) all =
    ap (λ o. cons_option o (deliveries_by asked disk es)) (same e.step all.0)
    ∙ ap (λ ds. cons_option (delivery_in table disk e.step) ds) (deliver_same asked table disk Q same es all.1)

-- the request of a bio stands in these entries, and in a table
pub record IsAsked (table : ℕ → Option Request) (earlier : List Entry) (b : ℕ) : Type 0 where
  pub request : Request
  pub before : request_of earlier b ≡ Some request
  pub known : table b ≡ Some request

-- each Deliver has its request before it
abbrev pub InOrder : (ℕ → Option Request) → List Entry → Type 0
InOrder table es =
    (earlier : List Entry) (e : Entry) (b : ℕ) (got : DeviceResult) → IsSplitBy es earlier e
    → e.step ≡ steps.Deliver b got → IsAsked table earlier b

-- what holds of each entry that splits a list holds of all
each_by_splits : (P : Entry → Type 0) (es : List Entry)
    → ((earlier : List Entry) (e : Entry) → IsSplitBy es earlier e → P e) → AllByRecursion P es
each_by_splits P [] each = tt
each_by_splits P (e ∷ es) each = (
  each [] e (es, refl),
  each_by_splits P es (λ earlier x split. each (e ∷ earlier) x (split.0, ap (λ (l : List Entry). e ∷ l) split.1)),
)

-- so the entries deliver what the table says
pub deliveries_in_order : (table : ℕ → Option Request) (disk : ℕ) (es : List Entry) → InOrder table es
    → deliveries es disk ≡ deliveries_by table disk es
deliveries_in_order table disk es order =
    deliver_same (request_of es) table disk (λ s. delivery_in (request_of es) disk s ≡ delivery_in table disk s)
    (λ s same. same) es
    (each_by_splits (λ e. delivery_in (request_of es) disk e.step ≡ delivery_in table disk e.step) es
    (λ earlier e split. at earlier e split e.step refl))
  where
    at : (earlier : List Entry) (e : Entry) → IsSplitBy es earlier e → (s : Step) → e.step ≡ s
        → delivery_in (request_of es) disk s ≡ delivery_in table disk s
    at earlier e split (steps.Deliver b got) is =
        let its : IsAsked table earlier b = order earlier e b got split is in
        ap (λ o. delivery_of disk got o)
        (ap (λ (l : List Entry). request_of l b) split.1
        ∙ request_same earlier (e ∷ split.0) b (subst (λ (o : Option Request). IsSome o) (sym its.before) refl)
        ∙ its.before ∙ sym its.known)
    at earlier e split s is = refl

-- a beginning is in order too
pub order_in_front : (table : ℕ → Option Request) (xs ys : List Entry) → InOrder table (xs ++ ys) → InOrder table xs
order_in_front table xs ys order earlier e b got split is =
    order earlier e b got
    (split.0 ++ ys, ap (λ (l : List Entry). l ++ ys) split.1 ∙ append_assoc earlier (e ∷ split.0) ys) is

-- Bytes that were read

module _ (table : ℕ → Option Request) (size disk : ℕ) (held : List (List ℕ)) where
  -- what the disk holds after entries, by the table
  abbrev holds : List Entry → List (List ℕ)
  holds es = held_by size held (deliveries_by table disk es)

  -- it is what their log says
  pub holds_contents : (es : List Entry) → InOrder table es → contents size held es disk ≡ holds es
  holds_contents es order =
      contents_by es size disk held ∙ ap (λ ds. held_by size held ds) (deliveries_in_order table disk es order)

  -- with one entry more
  holds_more : (es : List Entry) (e : Entry)
      → holds (es ++ e ∷ [])
      ≡ option_map_or (λ d. after_delivery size (holds es) d) (delivery_in table disk e.step) (holds es)
  holds_more es e =
      ap (λ ds. held_by size held ds) (filter_map-append (λ (x : Entry). delivery_in table disk x.step) es (e ∷ []))
      ∙ fold-append (after_delivery size) held (deliveries_by table disk es) (deliveries_by table disk (e ∷ []))
      ∙ by (delivery_in table disk e.step)
    where
      by : (o : Option Delivery)
          → fold (after_delivery size) (holds es) (cons_option o [])
          ≡ option_map_or (λ d. after_delivery size (holds es) d) o (holds es)
      by None = refl
      by (Some d) = refl

  -- a Deliver of bytes tells what the disk held exactly if its delivery does
  reads_tell : (front : List Entry) (now : List (List ℕ)) (s : Step)
      → ((b : ℕ) (got : DeviceResult) → s ≡ steps.Deliver b got → IsAsked table front b)
      → contents size held front disk ≡ now → ReadsWhatIsHeld size held front disk s
      → (d : Delivery) → delivery_in table disk s ≡ Some d → TellsWhatIsHeld d.request d.got now
  reads_tell front now (steps.Deliver b got) asked same reads d is =
      by got reads (it.request.disk == disk) refl (rw it.known at is)
    where
      it : IsAsked table front b
      it = asked b got refl

      at : (g : DeviceResult) → ReadsWhatIsHeld size held front disk (steps.Deliver b g) → it.request.disk ≡ disk
          → TellsWhatIsHeld it.request g now
      at (devices.Bytes bytes) reads own =
          let tells : it.request.disk ≡ disk → bytes ≡ bytes_at (contents size held front disk) it.request =
          subst (λ o. IfSome o (λ q. q.disk ≡ disk → bytes ≡ bytes_at (contents size held front disk) q)) it.before
          reads in
          tells own ∙ ap (λ h. bytes_at h it.request) same
      at g reads own = tt

      by : (g : DeviceResult) → ReadsWhatIsHeld size held front disk (steps.Deliver b g)
          → (c : Bool) → (it.request.disk == disk) ≡ c → delivery_of disk g (Some it.request) ≡ Some d
          → TellsWhatIsHeld d.request d.got now
      by g reads true own is =
          let made : Some (record { request = it.request; got = g }) ≡ Some d = rw own at is in
          let one : record { request = it.request; got = g } ≡ d = cc in
          subst (λ (x : Delivery). TellsWhatIsHeld x.request x.got now) one
          (at g reads (eqb-true it.request.disk disk own))
      by g reads false own is = absurd (let bad : None ≡ Some d = rw own at is in (let wrong : ⊥ = cc in wrong))
  reads_tell front now s asked same reads d is = absurd (let bad : ⊥ = cc in bad)

  tells_read : (front : List Entry) (now : List (List ℕ)) (s : Step)
      → ((b : ℕ) (got : DeviceResult) → s ≡ steps.Deliver b got → IsAsked table front b)
      → contents size held front disk ≡ now
      → ((d : Delivery) → delivery_in table disk s ≡ Some d → TellsWhatIsHeld d.request d.got now)
      → ReadsWhatIsHeld size held front disk s
  tells_read front now (steps.Deliver b (devices.Bytes bytes)) asked same tells =
      let it : IsAsked table front b = asked b (devices.Bytes bytes) refl in
      subst (λ o. IfSome o (λ q. q.disk ≡ disk → bytes ≡ bytes_at (contents size held front disk) q)) (sym it.before)
      (λ own.
      tells (record { request = it.request; got = devices.Bytes bytes })
      (rw it.known (rw (eq-eqb it.request.disk disk own) refl))
      ∙ ap (λ h. bytes_at h it.request) (sym same))
  tells_read front now s asked same tells = tt

  -- the entry behind a front has its request in the front
  asked_next : (front : List Entry) (e : Entry) (es : List Entry) → InOrder table (front ++ e ∷ es)
      → (b : ℕ) (got : DeviceResult) → e.step ≡ steps.Deliver b got → IsAsked table front b
  asked_next front e es order b got is = order front e b got (es, refl) is

  -- the order of a front with one entry more, and the rest
  order_on : (front : List Entry) (e : Entry) (es : List Entry) → InOrder table (front ++ e ∷ es)
      → InOrder table ((front ++ e ∷ []) ++ es)
  order_on front e es order = subst (λ l. InOrder table l) (sym (append_assoc front (e ∷ []) es)) order

  -- where the Delivers of bytes behind a front are true, their deliveries tell what the disk held
  told_behind : (front es : List Entry) → InOrder table (front ++ es)
      → ((earlier : List Entry) (e : Entry) → IsSplitBy es earlier e
      → ReadsWhatIsHeld size held (front ++ earlier) disk e.step)
      → AreTold size (holds front) (deliveries_by table disk es)
  told_behind front [] order reads = tt
  told_behind front (e ∷ es) order reads =
      by (delivery_in table disk e.step) refl
      (reads_tell front (holds front) e.step (asked_next front e es order)
      (holds_contents front (order_in_front table front (e ∷ es) order))
      (subst (λ l. ReadsWhatIsHeld size held l disk e.step) (append-nil front) (reads [] e (es, refl))))
      (subst (λ h. AreTold size h (deliveries_by table disk es)) (holds_more front e)
      (told_behind (front ++ e ∷ []) es (order_on front e es order) (λ earlier x split.
      subst (λ l. ReadsWhatIsHeld size held l disk x.step) (sym (append_assoc front (e ∷ []) earlier))
      (reads (e ∷ earlier) x (split.0, ap (λ (l : List Entry). e ∷ l) split.1)))))
    where
      by : (o : Option Delivery) → delivery_in table disk e.step ≡ o
          → ((d : Delivery) → delivery_in table disk e.step ≡ Some d
          → TellsWhatIsHeld d.request d.got (holds front))
          → AreTold size
          (option_map_or (λ d. after_delivery size (holds front) d) (delivery_in table disk e.step) (holds front))
          (deliveries_by table disk es)
          → AreTold size (holds front) (deliveries_by table disk (e ∷ es))
      by None is here rest = rw is (rw is at rest)
      by (Some d) is here rest = rw is (here d is, rw is at rest)

  -- and the other way
  true_behind : (front es : List Entry) → InOrder table (front ++ es)
      → AreTold size (holds front) (deliveries_by table disk es)
      → (earlier : List Entry) (e : Entry) → IsSplitBy es earlier e
      → ReadsWhatIsHeld size held (front ++ earlier) disk e.step
  true_behind front [] order told earlier e split = absurd (none_in earlier e split.0 split.1)
  true_behind front (x ∷ es) order told [] e split =
      let same : x ≡ e = cc in
      subst (λ (y : Entry). ReadsWhatIsHeld size held (front ++ []) disk y.step) same
      (subst (λ l. ReadsWhatIsHeld size held l disk x.step) (sym (append-nil front))
      (tells_read front (holds front) x.step (asked_next front x es order)
      (holds_contents front (order_in_front table front (x ∷ es) order))
      (λ d is. (rw is at told).0)))
  true_behind front (x ∷ es) order told (y ∷ earlier) e split =
      let whole : x ∷ es ≡ y ∷ (earlier ++ e ∷ split.0) = split.1 in
      let same : x ≡ y = cc in
      let rest : es ≡ earlier ++ e ∷ split.0 = cc in
      subst (λ (z : Entry). ReadsWhatIsHeld size held (front ++ z ∷ earlier) disk e.step) same
      (subst (λ l. ReadsWhatIsHeld size held l disk e.step) (append_assoc front (x ∷ []) earlier)
      (true_behind (front ++ x ∷ []) es (order_on front x es order)
      (subst (λ h. AreTold size h (deliveries_by table disk es)) (sym (holds_more front x))
      (by (delivery_in table disk x.step) refl told)) earlier e (split.0, rest)))
    where
      by : (o : Option Delivery) → delivery_in table disk x.step ≡ o
          → AreTold size (holds front) (cons_option (delivery_in table disk x.step) (deliveries_by table disk es))
          → AreTold size
          (option_map_or (λ d. after_delivery size (holds front) d) (delivery_in table disk x.step) (holds front))
          (deliveries_by table disk es)
      by None is told = rw is (rw is at told)
      by (Some d) is told = rw is (rw is at told).1

  -- of all entries
  pub told_by_true : (es : List Entry) → InOrder table es → AreTrue size held es disk
      → AreTold size held (deliveries_by table disk es)
  unfolding AreTrue
  told_by_true es order reads = told_behind [] es order reads

  pub true_by_told : (es : List Entry) → InOrder table es → AreTold size held (deliveries_by table disk es)
      → AreTrue size held es disk
  unfolding AreTrue
  true_by_told es order told = true_behind [] es order told

-- Along legal logs

-- in a legal log each bio that was answered was taken
answered_taken : (plan : Plan) (facts : List (ℕ × ℕ)) → MayBegin plan → FactsFit plan facts → (log : List Entry)
    → Legal (opening plan facts) log → (b : ℕ) → IsSome (device_answer_of log b) → IsSome (request_of log b)
answered_taken plan facts is fit log legal b some =
    let ledger : Ledger (moments (opening plan facts) log) (replay (opening plan facts) log) =
    ledger_along [] (opening plan facts) log (opened_ledger plan facts) (opened_firm plan facts is fit) legal in
    let back : entries_of (moments (opening plan facts) log) ≡ log = entries_back (opening plan facts) log in
    subst (λ es. IsSome (request_of es b)) back
    (ledger.taken b (subst (λ es. IsSome (device_answer_of es b)) (sym back) some))

-- a Deliver has an answer
deliver_answers : (s : Step) (b : ℕ) → is_deliver_of b s ≡ true → IsSome (device_answer_in s)
deliver_answers (steps.Deliver n got) b e = refl
deliver_answers s b e = absurd (let bad : ⊥ = cc in bad)

-- where a Deliver stands in a log its bio has an answer
answer_there : (b : ℕ) (got : DeviceResult) (front : List Entry) (e : Entry) (back : List Entry)
    → e.step ≡ steps.Deliver b got → IsSome (device_answer_of (front ++ e ∷ back) b)
answer_there b got [] e back is =
    let hit : is_deliver_of b e.step ≡ true = rw is (eq-eqb b b refl) in
    rw hit (deliver_answers e.step b hit)
answer_there b got (x ∷ front) e back is = by (is_deliver_of b x.step) refl (answer_there b got front e back is)
  where
    by : (c : Bool) → is_deliver_of b x.step ≡ c → IsSome (device_answer_of (front ++ e ∷ back) b)
        → IsSome (device_answer_of (x ∷ (front ++ e ∷ back)) b)
    by true hit rest = rw hit (deliver_answers x.step b hit)
    by false hit rest = rw hit rest

-- with an entry that isn't the Take of a bio its request is what it was
request_before : (es : List Entry) (e : Entry) (b : ℕ) → is_take_of b e.step ≡ false
    → request_of (es ++ e ∷ []) b ≡ request_of es b
request_before es e b other =
    ap (λ o. option_and_then (λ (x : Entry). request_in x.outcome) o)
    (find-pushed (λ (x : Entry). is_take_of b x.step) es e other)

-- what is delivered was taken before
delivers_follow : DeliversFollowTakes
delivers_follow plan facts is fit log legal earlier e b got split step =
    let whole : log ≡ (earlier ++ e ∷ []) ++ split.0 = split.1 ∙ sym (append_assoc earlier (e ∷ []) split.0) in
    subst (λ o. IsSome o) (request_before earlier e b (rw step refl))
    (answered_taken plan facts is fit (earlier ++ e ∷ [])
    (Legal-front (opening plan facts) (earlier ++ e ∷ []) split.0 (subst (Legal (opening plan facts)) whole legal)) b
    (answer_there b got earlier e [] step))

-- each Deliver of a legal log has its request before it
pub log_in_order : (plan : Plan) (facts : List (ℕ × ℕ)) → MayBegin plan → FactsFit plan facts → (log : List Entry)
    → Legal (opening plan facts) log → InOrder (request_of log) log
log_in_order plan facts is fit log legal earlier e b got split step =
    let some = delivers_follow plan facts is fit log legal earlier e b got split step in
    let its : Has (request_of earlier b) = has (request_of earlier b) some in
    record {
      request = its.item;
      before = its.is;
      known = ap (λ (l : List Entry). request_of l b) split.1 ∙ request_same earlier (e ∷ split.0) b some ∙ its.is;
    }

-- so two parts join
contents_join : ContentsJoin
contents_join plan facts is fit log legal earlier later size disk held split =
    contents_by log size disk held
    ∙ ap (λ l. held_by size held (deliveries_by (request_of log) disk l)) split
    ∙ ap (λ ds. held_by size held ds)
    (filter_map-append (λ (e : Entry). delivery_in (request_of log) disk e.step) earlier later)
    ∙ held_by_both size held (deliveries_by (request_of log) disk earlier) (deliveries_by (request_of log) disk later)
    ∙ ap (λ h. held_by size h (deliveries_by (request_of log) disk later))
    (sym (holds_contents (request_of log) size disk held earlier
    (order_in_front (request_of log) earlier later
    (subst (λ l. InOrder (request_of log) l) split (log_in_order plan facts is fit log legal)))))
    ∙ sym (contents_later log size disk (contents size held earlier disk) later)

-- both
pub contents_follow : ContentsFollow
contents_follow = record { join = contents_join; delivers = delivers_follow }
