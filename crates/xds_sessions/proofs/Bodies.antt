-- That texts of writes that are put one behind another are the texts of all of them.
use Rattle.std.proofs.Common.{◌≡◌, ℕ, List, [], ◌∷◌, ◌++◌, sym, ◌∙◌, append-nil}
use Rattle.std.specs.List.{filter_map}
use Rattle.xds_message.proofs.DraftLemmas.{texts_step}
use Rattle.xds_resource.specs.Writes.{StampedWrite}
use Rattle.xds_sessions.specs.SotwParts.{all_texts}
use Rattle.xds_sessions.proofs.SotwMade.{body_of}

pub all_added : (ws : List StampedWrite) (bodies : List (List ℕ)) → all_texts bodies ws ≡ bodies ++ filter_map body_of ws
all_added [] bodies = sym (append-nil bodies)
all_added (w ∷ ws) bodies = all_added ws _ ∙ texts_step bodies w.body (filter_map body_of ws)
