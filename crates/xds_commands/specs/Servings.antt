-- What a server is asked for. This project's own.
--     serving_of   what the words ask of a server, where its error output is a terminal or isn't
use Rattle.std.specs.Prelude.{ℕ, Bool, ◌||◌, Option}
use Rattle.xds_program.specs.declared.tasks.ServeTask.{ServeTask}
use Rattle.xds_server.specs.declared.server.Serving.{Serving}

-- what the words ask of a server that waits with its answers or doesn't, logs as JSON or doesn't, tells references that lead nowhere or doesn't, and refuses puts that make a response too long or doesn't, where its error output is a terminal or isn't
abbrev pub serving_of : ServeTask → Option ℕ → Bool → Bool → Bool → Bool → Bool → Serving
serving_of task first_number hold log_json lint refuse_long is_terminal = record {
  first_number = first_number;
  replicas = task.replicas;
  port = task.port;
  rest_port = task.rest_port;
  streams = task.streams;
  workers = task.workers;
  keep_going = task.keep_going;
  tells = is_terminal;
  logs = task.log || log_json;
  logs_json = log_json;
  max_streams = task.max_streams;
  idle_seconds = task.idle_seconds;
  admin_port = task.admin_port;
  hold = hold;
  lint = lint;
  refuse_long = refuse_long;
}
