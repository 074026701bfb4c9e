-- How far bytes that are gathered in a block were written.
use Rattle.std.proofs.Common.{◌≡◌, ◌+◌, ℕ, List, [], ◌++◌, length, take, drop, Option, refl, ap, sym, ◌∙◌, subst, append_assoc, append-nil, take-append-drop}
use Rattle.std.specs.Io.KnownBytes.{Appends}
use Rattle.std.proofs.KnownBytes.{Appends-nil, Appends-trans}
use Rattle.std.proofs.Math.Seq.{take-append_seam, take-append-add}
use Rattle.xds_frames.specs.Devices.{Device, MoreFailed, Wrote, WrotePart}
use Rattle.xds_frames.specs.Gathering.{Passes}

-- a device as some calls leave it
abbrev pub of_calls : Option (List ℕ) → Option (List ℕ) → ℕ → ℕ → Device
of_calls before after failed_before failed_after = record { before = before; after = after; failed_before = failed_before; failed_after = failed_after }

-- a beginning of a text is one of a longer text
pub part_of_more : (d : Device) (xs ys : List ℕ) → WrotePart d xs → WrotePart d (xs ++ ys)
part_of_more d xs ys part =
    let front = take part.1.0 xs in
    let whole : xs ++ ys ≡ front ++ (drop part.1.0 xs ++ ys) =
    ap (λ (l : List ℕ). l ++ ys) (sym (take-append-drop part.1.0 xs)) ∙ append_assoc front (drop part.1.0 xs) ys in
    let same : take (length front) (xs ++ ys) ≡ front = ap (take (length front)) whole ∙ take-append_seam front (drop part.1.0 xs ++ ys) in
    (part.0, (length front, subst (Wrote d) (sym same) part.1.1))

pub part_longer : (d : Device) (held xs ys : List ℕ) → WrotePart d (held ++ xs) → WrotePart d (held ++ (xs ++ ys))
part_longer d held xs ys part = subst (WrotePart d) (append_assoc held xs ys) (part_of_more d (held ++ xs) ys part)

-- nothing is written
pub passes_none : (b : Option (List ℕ)) (f : ℕ) (held bytes left : List ℕ) → left ≡ held ++ bytes → Passes (of_calls b b f f) held bytes left
passes_none b f held bytes left is = record { sent = []; wrote = Appends-nil b; all = sym is; none_failed = refl }

-- what was held is written, and the bytes are held
pub passes_held : (b a : Option (List ℕ)) (f g : ℕ) (held bytes left : List ℕ) → Appends b a held → g ≡ f → left ≡ bytes → Passes (of_calls b a f g) held bytes left
passes_held b a f g held bytes left wrote none is = record { sent = held; wrote = wrote; all = ap (λ (l : List ℕ). held ++ l) (sym is); none_failed = none }

-- what was held is written, and the bytes, too
pub passes_both : (b m a : Option (List ℕ)) (f g h : ℕ) (held bytes left : List ℕ) → Appends b m held → g ≡ f → Appends m a bytes → h ≡ g → left ≡ [] → Passes (of_calls b a f h) held bytes left
passes_both b m a f g h held bytes left first none second none_again is = record {
  sent = held ++ bytes;
  wrote = Appends-trans b m a held bytes first second;
  all = sym (append-nil (held ++ bytes)) ∙ ap (λ (l : List ℕ). (held ++ bytes) ++ l) (sym is);
  none_failed = none_again ∙ none;
}

-- more bytes behind bytes
pub passes_more : (b m a : Option (List ℕ)) (f g h : ℕ) (held bytes middle more left : List ℕ) → Passes (of_calls b m f g) held bytes middle → Passes (of_calls m a g h) middle more left
    → Passes (of_calls b a f h) held (bytes ++ more) left
passes_more b m a f g h held bytes middle more left p q = record {
  sent = p.sent ++ q.sent;
  wrote = Appends-trans b m a p.sent q.sent p.wrote q.wrote;
  all =
      sym (append_assoc held bytes more) ∙ ap (λ (l : List ℕ). l ++ more) p.all ∙ append_assoc p.sent middle more
      ∙ ap (λ (l : List ℕ). p.sent ++ l) q.all ∙ sym (append_assoc p.sent q.sent left);
  none_failed = q.none_failed ∙ p.none_failed;
}

-- a call failed behind bytes that came through
pub part_behind : (b m a : Option (List ℕ)) (f g h : ℕ) (held bytes middle more : List ℕ) → Passes (of_calls b m f g) held bytes middle → WrotePart (of_calls m a g h) (middle ++ more)
    → WrotePart (of_calls b a f h) (held ++ (bytes ++ more))
part_behind b m a f g h held bytes middle more p part =
    let whole : p.sent ++ (middle ++ more) ≡ held ++ (bytes ++ more) =
    sym (append_assoc p.sent middle more) ∙ ap (λ (l : List ℕ). l ++ more) (sym p.all) ∙ append_assoc held bytes more in
    let n = part.1.0 in
    let cut : p.sent ++ take n (middle ++ more) ≡ take (length p.sent + n) (held ++ (bytes ++ more)) =
    sym (take-append-add p.sent (middle ++ more) n) ∙ ap (take (length p.sent + n)) whole in (
      subst (λ (x : ℕ). MoreFailed x h) p.none_failed part.0,
      (length p.sent + n, subst (Appends b a) cut (Appends-trans b m a p.sent (take n (middle ++ more)) p.wrote part.1.1)),
    )

-- a call failed behind what was held
pub part_behind_held : (b m a : Option (List ℕ)) (f g h : ℕ) (held bytes : List ℕ) → Appends b m held → g ≡ f → WrotePart (of_calls m a g h) bytes → WrotePart (of_calls b a f h) (held ++ bytes)
part_behind_held b m a f g h held bytes wrote none part = part_behind b m a f g h held [] [] bytes (passes_held b m f g held [] [] wrote none refl) part

-- what is left is written, too
pub passes_whole : (b m a : Option (List ℕ)) (f g : ℕ) (held bytes left : List ℕ) → Passes (of_calls b m f g) held bytes left → Appends m a left → Appends b a (held ++ bytes)
passes_whole b m a f g held bytes left p wrote = subst (Appends b a) (sym p.all) (Appends-trans b m a p.sent left p.wrote wrote)
