-- Worlds after lists of happenings.
use Rattle.std.proofs.Common.{◌≡◌, List, [], ◌∷◌, ◌++◌, map, Bool, true, false, Option, refl, sym, ap, subst, ◌∙◌}
use Rattle.std.proofs.lemmas.List.{map-append}
use Rattle.std.specs.Option.{option_map_or}
use Rattle.xds_cache.specs.Faults.{Test}
use Rattle.xds_script.specs.Happenings.{Happening, PutsAResource}
use Rattle.xds_world.specs.Worlds.{World, happens, after, world, empty_world}
use Rattle.xds_world.proofs.Headline.{put_more}
use Rattle.xds_world.specs.Calls.{Happened}
use Rattle.xds_world.specs.Played.{IsWorldOf}

after_more : (test : Test) (w : World) (hs : List Happening) (h : Happening) → after test w (hs ++ h ∷ []) ≡ option_map_or (λ x. x) (happens test (after test w hs) h) (after test w hs)
after_more test w [] h = refl
after_more test w (x ∷ hs) h = after_more test (option_map_or (λ x. x) (happens test w x) w) hs h

-- one list after another
pub after_both : (test : Test) (w : World) (hs ks : List Happening) → after test w (hs ++ ks) ≡ after test (after test w hs) ks
after_both test w [] ks = refl
after_both test w (x ∷ hs) ks = after_both test (option_map_or (λ x. x) (happens test w x) w) hs ks

left_is : (w left : World) (b : Bool) (o : Option World) → Happened w b left o → left ≡ option_map_or (λ x. x) o w
left_is w left true o is = sym (ap (λ q. option_map_or (λ x. x) q w) is)
left_is w left false o is = is.1 ∙ sym (ap (λ q. option_map_or (λ x. x) q w) is.0)

-- one happening more
pub and_one : (test : Test) (w left : World) (hs : List Happening) (h : Happening) (b : Bool) → w ≡ world test hs → Happened w b left (happens test w h) → left ≡ world test (hs ++ h ∷ [])
and_one test w left hs h b is happened =
    left_is w left b (happens test w h) happened ∙ ap (λ w. option_map_or (λ x. x) (happens test w h) w) is ∙ sym (after_more test empty_world hs h)

-- and what is put is still a resource
pub played_one : (test : Test) (w left : World) (hs more : List Happening) (h : Happening) (b : Bool) → IsWorldOf test w hs → PutsAResource h → Happened w b left (happens test w h) → more ≡ hs ++ h ∷ [] → IsWorldOf test left more
played_one test w left hs more h b is puts happened longer =
    subst (IsWorldOf test left) (sym longer) (record { world = and_one test w left hs h b is.world happened; put = put_more hs h is.put puts })

-- what a list is seen as, with one item more
pub map_pushed : {X Y : Type 0} (f : X → Y) (xs ys : List X) (x : X) (y : Y) → ys ≡ xs ++ x ∷ [] → f x ≡ y → map f ys ≡ map f xs ++ y ∷ []
map_pushed f xs ys x y pushed is = ap (map f) pushed ∙ map-append f xs (x ∷ []) ∙ ap (λ z. map f xs ++ z ∷ []) is
