-- Events that come several times, and lists of blocks.
use Rattle.std.proofs.Common.{◌≡◌, ℕ, zero, suc, ◌+◌, ◌-◌, ◌*◌, ◌/◌, ◌%◌, ◌<◌, ◌≤◌, List, [], ◌∷◌, ◌++◌, length, get_or, drop, refl, sym, ap, ◌∙◌, ⊎_elim, arith, Some, slice_get, slice_set, suc-mul, zero-mul, mul-zero, div-add-mod', mod-lt, le-div_iff_mul-le, mul-le-mul_right, eq-or-lt_of_le}
use Rattle.std.proofs.lemmas.List.{append-nil, append_assoc, length-append, drop_more}
use Rattle.std.proofs.lemmas.Option.{slice_get-get_or, slice_get_within}
use Rattle.meaning.specs.declared.event.Event.{Event}
use Rattle.meaning.specs.declared.event.Event.TheVariants.{Turn}
use Rattle.meaning.specs.declared.events.Block.{Block}
use Rattle.meaning.specs.Blocks.{events_of, listed, repeated}

pub get-append_left : (xs ys : List Event) (i : ℕ) → i < length xs → slice_get (xs ++ ys) i ≡ slice_get xs i
get-append_left [] ys i within = absurd (omega arith)
get-append_left (x ∷ xs) ys zero within = refl
get-append_left (x ∷ xs) ys (suc i) within = get-append_left xs ys i (omega arith)

pub get-append_right : (xs ys : List Event) (i : ℕ) → slice_get (xs ++ ys) (length xs + i) ≡ slice_get ys i
get-append_right [] ys i = let on : zero + i ≡ i = omega arith in ap (slice_get ys) on
get-append_right (x ∷ xs) ys i =
    let on : suc (length xs) + i ≡ suc (length xs + i) = omega arith in
    ap (slice_get (x ∷ (xs ++ ys))) on ∙ get-append_right xs ys i

pub length-repeated : (n : ℕ) (events : List Event) → length (repeated n events) ≡ n * length events
length-repeated zero events = sym (zero-mul (length events))
length-repeated (suc n) events =
    length-append (repeated n events) events ∙ ap (λ k. k + length events) (length-repeated n events) ∙ sym (suc-mul n (length events))

-- of so many times some events, the one of number r in those of number q
pub get-repeated : (n q r : ℕ) (events : List Event) → q < n → r < length events
    → slice_get (repeated n events) (q * length events + r) ≡ slice_get events r
get-repeated zero q r events within inside = absurd (omega arith)
get-repeated (suc n) q r events within inside =
    let long = length-repeated n events in
    let at_most : q ≤ n = omega arith in
    ⊎_elim
    (λ (last : q ≡ n).
    let here : q * length events + r ≡ length (repeated n events) + r = ap (λ k. k * length events + r) last ∙ ap (λ k. k + r) (sym long) in
    ap (slice_get (repeated n events ++ events)) here ∙ get-append_right (repeated n events) events r)
    (λ (earlier : q < n).
    let most : suc q * length events ≤ n * length events = mul-le-mul_right (length events) earlier in
    let next = suc-mul q (length events) in
    get-append_left (repeated n events) events (q * length events + r) (omega arith)
    ∙ get-repeated n q r events earlier inside)
    (eq-or-lt_of_le at_most)

pub nothing_behind : (events : List Event) (n i : ℕ) → length events ≡ zero → i ≡ length (repeated n events) + i
nothing_behind events n i none =
    let long : length (repeated n events) ≡ zero = length-repeated n events ∙ ap (λ k. n * k) none ∙ mul-zero n in
    omega arith

pub block_found : (events : List Event) (n i : ℕ) → zero < length events → i / length events < n
    → slice_get (repeated n events) i ≡ Some (get_or events (i % length events) (Turn 0))
block_found events n i some within =
    let inside = mod-lt i some in
    ap (slice_get (repeated n events)) (sym (div-add-mod' i (length events)))
    ∙ get-repeated n (i / length events) (i % length events) events within inside
    ∙ slice_get-get_or events (i % length events) (Turn 0) inside

pub block_behind : (events : List Event) (n i : ℕ) → zero < length events → n ≤ i / length events
    → i ≡ length (repeated n events) + (i - n * length events)
block_behind events n i some behind =
    let long = length-repeated n events in
    let most : n * length events ≤ i = (le-div_iff_mul-le some).0 behind in
    omega arith

listed_from : (blocks : List Block) (k : ℕ) (block : Block) → k < length blocks → block ≡ get_or blocks k block
    → listed (drop k blocks) ≡ events_of block ++ listed (drop (k + 1) blocks)
listed_from blocks k block within is =
    ap listed (drop_more blocks k block within) ∙ ap (λ b. events_of b ++ listed (drop (k + 1) blocks)) (sym is)

-- the event of number `rest` from block k on is in that block
pub here : (blocks : List Block) (k rest : ℕ) (block : Block) (event : Event) → k < length blocks → block ≡ get_or blocks k block
    → slice_get (events_of block) rest ≡ Some event → slice_get (listed (drop k blocks)) rest ≡ Some event
here blocks k rest block event within is found =
    ap (λ xs. slice_get xs rest) (listed_from blocks k block within is)
    ∙ get-append_left (events_of block) (listed (drop (k + 1) blocks)) rest (slice_get_within (events_of block) rest event found)
    ∙ found

-- it is behind that block
pub further : (blocks : List Block) (k rest behind : ℕ) (block : Block) → k < length blocks → block ≡ get_or blocks k block
    → rest ≡ length (events_of block) + behind → slice_get (listed (drop k blocks)) rest ≡ slice_get (listed (drop (k + 1) blocks)) behind
further blocks k rest behind block within is long =
    ap (λ xs. slice_get xs rest) (listed_from blocks k block within is)
    ∙ ap (slice_get (events_of block ++ listed (drop (k + 1) blocks))) long
    ∙ get-append_right (events_of block) (listed (drop (k + 1) blocks)) behind

-- the events of a block that comes once
once : (events : List Event) (n : ℕ) → n ≡ 1 → repeated n events ≡ events
once events n is = ap (λ k. repeated k events) is

-- an event more in the last block, which comes once
pub grown : (blocks : List Block) (block : Block) (event : Event) (events : List Event) → zero < length blocks
    → block ≡ get_or blocks (length blocks - 1) block → block.times ≡ 1 → events ≡ block.events ++ event ∷ []
    → listed (slice_set blocks (length blocks - 1) (record { events = events; times = block.times })) ≡ listed blocks ++ event ∷ []
grown [] block event events some is single more = absurd (omega arith)
grown (b ∷ []) block event events some is single more =
    let last : length (b ∷ []) - 1 ≡ zero = omega arith in
    let same : block ≡ b = is ∙ ap (λ k. get_or (b ∷ []) k block) last in
    ap (λ k. listed (slice_set (b ∷ []) k (record { events = events; times = block.times }))) last
    ∙ append-nil (repeated block.times events) ∙ once events block.times single ∙ more
    ∙ ap (λ x. x ++ event ∷ []) (sym (once block.events block.times single) ∙ ap events_of same ∙ sym (append-nil (events_of b)))
grown (a ∷ b ∷ blocks) block event events some is single more =
    let last : length (a ∷ b ∷ blocks) - 1 ≡ suc (length (b ∷ blocks) - 1) = omega arith in
    let same : block ≡ get_or (b ∷ blocks) (length (b ∷ blocks) - 1) block = is ∙ ap (λ k. get_or (a ∷ b ∷ blocks) k block) last in
    ap (λ k. listed (slice_set (a ∷ b ∷ blocks) k (record { events = events; times = block.times }))) last
    ∙ ap (λ x. events_of a ++ x) (grown (b ∷ blocks) block event events (omega arith) same single more)
    ∙ sym (append_assoc (events_of a) (listed (b ∷ blocks)) (event ∷ []))

pub longer : (before events listed : List Event) (n len sum : ℕ) → len ≡ length before → sum ≡ len + n * length events
    → listed ≡ before ++ repeated n events → sum ≡ length listed
longer before events listed n len sum is more listed_is =
    let all = ap length listed_is ∙ length-append before (repeated n events) in
    let long = length-repeated n events in
    omega arith
