-- How a command is told to have given up, and how a client's end is told.
use Rattle.std.proofs.Common.{◌≡◌, ◌⊎◌, ℕ, inl, inr, Option, Some, None, IfSome, Result, Err, ap, ◌∙◌, subst, sym}
use Rattle.xds_frames.specs.Devices.{Device, Stays, Tells}
use Rattle.xds_resource.specs.declared.refusal.Refusal.{Refusal}
use Rattle.xds_resource.specs.declared.refusal.Refusal.TheVariants.{OutOfMemory, FrameTooLong, Device as DeviceRefusal}
use Rattle.xds_http.specs.declared.told.Told.{Told}
use Rattle.xds_program.specs.Outcomes.{refusal_line}
use Rattle.xds_program.specs.Tasks.{Watch}
use Rattle.xds_tools.specs.Ends.{HasEnded, ShowsInTime, ShowsReply, http_line, late_line}

-- a poll that ended by a refusal gave up where the refusal says so
pub late_if : (r seconds : Option ℕ) (e : Refusal) (polled : Result Told Refusal) → polled ≡ Err e → IfSome r (λ s. (seconds ≡ Some s) × (e ≡ DeviceRefusal))
    → IfSome r (λ s. (seconds ≡ Some s) × (polled ≡ Err DeviceRefusal))
late_if None seconds e polled is gave = tt
late_if (Some s) seconds e polled is gave = (gave.0, is ∙ ap Err gave.1)

-- a poll that gave up tells so, or that no reply came
pub shows_late : (seconds : Option ℕ) (s : ℕ) (r : Result Told Refusal) (status : ℕ) (output errors : Device) → seconds ≡ Some s → r ≡ Err DeviceRefusal → Stays output
    → Tells errors (late_line s) ⊎ Tells errors (refusal_line DeviceRefusal) → status ≡ 1 → ShowsInTime seconds r status output errors
shows_late seconds s r status output errors given is stays (inl late) one = inr (is, (s, given, stays, late, one))
shows_late seconds s r status output errors given is stays (inr refused) one =
    inl (subst (λ x. ShowsReply x status output errors) (sym is) (stays, refused, one))

module _ (task : Watch) (refusal : Refusal) (status : ℕ) (errors : Device) where
  abbrev Ended : Type 0
  Ended = HasEnded {T = Unit {0}} task (Err refusal) status errors

  -- so does a client
  pub ends_late : (s : ℕ) → task.seconds ≡ Some s → refusal ≡ DeviceRefusal → Tells errors (late_line s) ⊎ Tells errors (refusal_line DeviceRefusal) → status ≡ 1 → Ended
  ends_late s given is (inl late) one = (one, inr (inr (inr (s, is, given, late))))
  ends_late s given is (inr refused) one = (one, inl (subst (λ e. Tells errors (refusal_line e)) (sym is) refused))

  -- a client whose other end speaks HTTP
  pub ends_http : refusal ≡ FrameTooLong → Tells errors (http_line refusal) ⊎ Tells errors (refusal_line OutOfMemory) → status ≡ 1 → Ended
  ends_http long (inl http) one = (one, inr (inr (inl (long, http))))
  ends_http long (inr memory) one = (one, inr (inl memory))

  -- and any other
  pub ends_refused : Tells errors (refusal_line refusal) ⊎ Tells errors (refusal_line OutOfMemory) → status ≡ 1 → Ended
  ends_refused (inl refused) one = (one, inl refused)
  ends_refused (inr memory) one = (one, inr (inl memory))
