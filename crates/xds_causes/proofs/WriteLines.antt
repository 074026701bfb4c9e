-- Lines of stamped writes that grow by one.
use Rattle.std.proofs.Common.{List, ℕ, [], ◌∷◌, ◌++◌}
use Rattle.xds_resource.specs.TypedWrites.{TypedWrite}
use Rattle.xds_causes.specs.WriteLines.{AreWriteLines, IsWriteLine}

pub AreWriteLines-push : (ls : List (List ℕ)) (xs : List TypedWrite) (l : List ℕ) (x : TypedWrite) → AreWriteLines ls xs → IsWriteLine l x → AreWriteLines (ls ++ l ∷ []) (xs ++ x ∷ [])
AreWriteLines-push [] [] l x h is = (is, tt)
AreWriteLines-push [] (y ∷ xs) l x h is = absurd h
AreWriteLines-push (k ∷ ls) [] l x h is = absurd h
AreWriteLines-push (k ∷ ls) (y ∷ xs) l x h is = (h.0, AreWriteLines-push ls xs l x h.1 is)
