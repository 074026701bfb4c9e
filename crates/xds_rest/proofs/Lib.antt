mod Asking
mod Polled
