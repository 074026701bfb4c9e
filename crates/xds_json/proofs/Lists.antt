-- Lists of values, item by item.
use Rattle.std.proofs.Common.{◌≡◌, ℕ, zero, suc, ◌<◌, List, [], ◌∷◌, ◌++◌, length, get_or, map, Option, Some, None, Result, Ok, Err, IsErrAnd, All, is_some, false, true≢false, refl, sym, ap, ◌∙◌, subst, arith}
use Rattle.std.specs.List.{AllZip}
use Rattle.std.proofs.lemmas.List.Elements.{All-head, All-tail}
use Rattle.serde_json.specs.Data.{Data, null, boolean, number, string, array, object, Items}
use Rattle.serde_json.specs.Find.{as_str, as_array, as_object}
use Rattle.serde_json.specs.View.{view, items_of, items_view}
use Rattle.serde_json.specs.declared.value.Value.{Value}
use Rattle.xds_resource.specs.declared.refusal.Refusal.{Refusal}
use Rattle.xds_json.specs.Spelling.{IsObject, IsOrDefault, Reads, IsJson}

-- where one item is no text, the items are no texts
pub no_texts : (vs : List Value) (i : ℕ) (d : Value) → i < length vs → as_str (view (get_or vs i d)) ≡ None → (texts : List (List ℕ)) → map view vs ≡ map string texts → ⊥
no_texts [] i d below other texts e = absurd (omega arith)
no_texts (v ∷ vs) i d below other [] e = cc
no_texts (v ∷ vs) zero d below other (t ∷ ts) e = cc
no_texts (v ∷ vs) (suc i) d below other (t ∷ ts) e = no_texts vs i d (omega arith) other ts cc

some_text : (t : List ℕ) → as_str (string t) ≡ None → ⊥
some_text t e = cc

-- an item in the middle of texts is a text
pub text_in_middle : (done : List (List ℕ)) (d : Data) (rest : List Data) (texts : List (List ℕ)) → map string done ++ d ∷ rest ≡ map string texts → as_str d ≡ None → ⊥
text_in_middle [] d rest [] e none = cc
text_in_middle [] d rest (t ∷ ts) e none = some_text t (let is : string t ≡ d = cc in ap as_str is ∙ none)
text_in_middle (x ∷ done) d rest [] e none = cc
text_in_middle (x ∷ done) d rest (t ∷ ts) e none = text_in_middle done d rest ts (let same : map string done ++ d ∷ rest ≡ map string ts = cc in same) none

pub as_str_is : (d : Data) (t : List ℕ) → Some t ≡ as_str d → string t ≡ d
as_str_is null t e = cc
as_str_is (boolean b) t e = cc
as_str_is (number n) t e = cc
as_str_is (string s) t e = cc
as_str_is (array es) t e = cc
as_str_is (object ms) t e = cc

pub items_of-injective : (ds es : List Data) → items_of ds ≡ items_of es → ds ≡ es
items_of-injective [] [] e = refl
items_of-injective [] (y ∷ es) e = cc
items_of-injective (d ∷ ds) [] e = cc
items_of-injective (d ∷ ds) (y ∷ es) e = let rest = items_of-injective ds es cc in cc

-- two facts that hold of the same answers are read alike
pub Reads-same : {X Y : Type 0} (P Q : Y → Type 0) (view : X → Y) (r : Result X Refusal) → ((y : Y) → P y → Q y) → ((y : Y) → Q y → P y) → Reads P view r → Reads Q view r
Reads-same P Q view (Ok x) to back h = to (view x) h
Reads-same P Q view (Err e) to back h = λ other. let k = h other in (k.0, λ y w. k.1 y (back y w))

as_array_is : (d : Data) (ds : Items) → Some ds ≡ as_array d → d ≡ array ds
as_array_is null ds e = cc
as_array_is (boolean b) ds e = cc
as_array_is (number n) ds e = cc
as_array_is (string s) ds e = cc
as_array_is (array es) ds e = cc
as_array_is (object ms) ds e = cc

-- the items of an array that are texts are the texts that the array spells
pub Reads-texts : {X : Type 0} (o : Option Data) (d : Data) (vs : List Value) (view_of : X → List (List ℕ)) (r : Result X Refusal) → Some d ≡ o → Some (items_view vs) ≡ as_array d → Reads (λ texts. map view vs ≡ map string texts) view_of r
    → Reads (IsOrDefault [] (λ e ts. e ≡ array (items_of (map string ts))) o) view_of r
Reads-texts o d vs view_of r found e h =
    let is = as_array_is d (items_view vs) e in
    rw (← found) (Reads-same _ _ view_of r (λ texts same. is ∙ ap (λ ds. array (items_of ds)) same) (λ texts other. items_of-injective (map view vs) (map string texts) (let both = sym is ∙ other in cc)) h)

-- a call that fails as one of its parts did
pub Reads-refused : {X Y W Z : Type 0} (P : Y → Type 0) (Q : Z → Type 0) (view : X → Y) (part_view : W → Z) (r : Result X Refusal) (part : Result W Refusal) (e : Refusal) → IsErrAnd r (λ f. f ≡ e) → part ≡ Err e
    → Reads Q part_view part → ((y : Y) → P y → (z : Z) × Q z) → Reads P view r
Reads-refused P Q view part_view (Ok x) part e failed part_failed h to = absurd failed
Reads-refused P Q view part_view (Err f) part e failed part_failed h to =
    λ other. let k = (rw part_failed at h) (rw (← failed) other) in (failed ∙ k.0, λ y fits. let z = to y fits in k.1 z.0 z.1)

-- one more pair of items
pub AllZip-map-more : {A B C : Type 0} (R : A → C → Type 0) (f : B → C) (xs : List A) (ys : List B) (x : A) (y : B) → AllZip R xs (map f ys) → R x (f y) → AllZip R (xs ++ x ∷ []) (map f (ys ++ y ∷ []))
AllZip-map-more R f [] [] x y h is = (is, tt)
AllZip-map-more R f [] (w ∷ ys) x y h is = absurd h
AllZip-map-more R f (z ∷ xs) [] x y h is = absurd h
AllZip-map-more R f (z ∷ xs) (w ∷ ys) x y h is = (h.0, AllZip-map-more R f xs ys x y h.1 is)

-- what stands beside an item in the middle
pub AllZip-middle : {A C : Type 0} (R : A → C → Type 0) (before : List A) (x : A) (after : List A) (ys : List C) → AllZip R (before ++ x ∷ after) ys → (y : C) × R x y
AllZip-middle R [] x after [] h = absurd h
AllZip-middle R [] x after (y ∷ ys) h = (y, h.0)
AllZip-middle R (z ∷ before) x after [] h = absurd h
AllZip-middle R (z ∷ before) x after (y ∷ ys) h = AllZip-middle R before x after ys h.1

-- an item that moves from the end of one list to the beginning of another
pub map-moved : {A B C : Type 0} (f : A → C) (g : B → C) (xs : List A) (x : A) (y : B) (ys : List B) → f x ≡ g y → map f (xs ++ x ∷ []) ++ map g ys ≡ map f xs ++ map g (y ∷ ys)
map-moved f g [] x y ys e = (λ i. e i ∷ map g ys)
map-moved f g (z ∷ xs) x y ys e = ap (λ zs. f z ∷ zs) (map-moved f g xs x y ys e)

-- an array whose items spell these messages
abbrev pub IsArrayOf : {Y : Type 0} → (Data → Y → Type 0) → Data → List Y → Type 0
IsArrayOf Spells d ms = (ds : List Data) × (d ≡ array (items_of ds)) × AllZip Spells ds ms

IsArrayOf-items : {Y : Type 0} (Spells : Data → Y → Type 0) (ds : List Data) (ms : List Y) → IsArrayOf Spells (array (items_of ds)) ms → AllZip Spells ds ms
IsArrayOf-items Spells ds ms w = let same : items_of w.0 ≡ items_of ds = (let turned = sym w.1 in cc) in subst (λ es. AllZip Spells es ms) (items_of-injective w.0 ds same) w.2

-- the items of an array that spell messages are the messages that the array spells
pub Reads-each : {X Y : Type 0} (Spells : Data → Y → Type 0) (o : Option Data) (ds : List Data) (view_of : X → List Y) (r : Result X Refusal) → Some (array (items_of ds)) ≡ o → Reads (AllZip Spells ds) view_of r
    → Reads (IsOrDefault [] (IsArrayOf Spells) o) view_of r
Reads-each Spells o ds view_of r found h =
    rw (← found) (Reads-same (AllZip Spells ds) (IsArrayOf Spells (array (items_of ds))) view_of r (λ ms zipped. (ds, refl, zipped)) (IsArrayOf-items Spells ds) h)

pub Reads-objects : {X : Type 0} (o : Option Data) (ds : List Data) (view_of : X → List Data) (r : Result X Refusal) → Some (array (items_of ds)) ≡ o → Reads (λ es. (ds ≡ es) × All IsObject es) view_of r
    → Reads (IsOrDefault [] (λ d es. (d ≡ array (items_of es)) × All IsObject es) o) view_of r
Reads-objects o ds view_of r found h =
    rw (← found) (Reads-same (λ es. (ds ≡ es) × All IsObject es) (λ es. (array (items_of ds) ≡ array (items_of es)) × All IsObject es) view_of r (λ es w. (ap (λ xs. array (items_of xs)) w.0, w.1)) (λ es w. (let same : items_of ds ≡ items_of es = (let both = w.0 in cc) in items_of-injective ds es same, w.1)) h)

-- where one value is no object, not all are
pub no_objects : (vs : List Value) (i : ℕ) (d : Value) → i < length vs → is_some (as_object (view (get_or vs i d))) ≡ false → All IsObject (map view vs) → ⊥
no_objects [] i d below other all = absurd (omega arith)
no_objects (v ∷ vs) zero d below other all = true≢false (sym (All-head IsObject (view v) (map view vs) all) ∙ other)
no_objects (v ∷ vs) (suc i) d below other all = no_objects vs i d (omega arith) other (All-tail IsObject (view v) (map view vs) all)

pub map-twice : {A B C : Type 0} (f : A → B) (g : B → C) (xs : List A) → map (λ x. g (f x)) xs ≡ map g (map f xs)
map-twice f g [] = refl
map-twice f g (x ∷ xs) = ap (λ ys. g (f x) ∷ ys) (map-twice f g xs)

-- a text reads as one value
pub one_value : (json : List ℕ) (d e : Data) → IsJson json d → IsJson json e → d ≡ e
one_value json d e p q = let same : Some d ≡ Some e = sym p.1 ∙ q.1 in cc
